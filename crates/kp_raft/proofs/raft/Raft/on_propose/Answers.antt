use Rattle.std.proofs.Common.{ap, ◌∙◌, ◌≡◌, ◌+◌, ◌-◌, ℕ, List, take, map, length, arith}
use Rattle.kp_entry.specs.Log.{last_index}
use Rattle.kp_raft.specs.declared.vars.Vars.{Vars}
use Rattle.kp_raft.specs.Numbers.{MAX}
use Rattle.kp_raft.specs.Rules.{entry_with, proposed, still_leading}
use Rattle.kp_raft.specs.Variables.{vars_of}
use Rattle.kp_raft.specs.Members.{running_of}
use Rattle.kp_raft.proofs.StepFacts.{if_ok, steps_as}
use Rattle.kp_raft.proofs.Elected.{proposes}
use Rattle.kp_raft.proofs.raft.Raft.on_propose.Goals as goal

pub returns-clause-ok : goal.returns-clause-ok
returns-clause-ok g c =
    let es : c.in_ok-entries.entries ≡ proposed c.args.self.now.held c.args.time c.args.bodies = c.in_ok-entries.ensures ∙ ap (λ (t : ℕ). take (MAX - c.last-last.result) (map (entry_with t c.args.time) c.args.bodies)) c.term-term.ensures.term ∙ ap (λ (n : ℕ). take (MAX - n) (map (entry_with c.args.self.now.held.term c.args.time) c.args.bodies)) c.last-last.ensures.index in
    let end : c.last-last.result + c.len.result ≡ last_index c.args.self.now.held.log + length c.in_ok-entries.entries = omega (arith, c.last-last.ensures.index, c.len.ensures.len) in
    if_ok c.append_own.result (λ out. steps_as {I = g.row.I.Denot} c.args.self.now c.append_own.new.self _ _ out (proposes g.row.I.Denot c.args.self.now.members c.args.self.now.node c.args.self.now.held (running_of c.args.self.now) c.args.time c.args.bodies c.term-term.result c.vote-vote.result (c.last-last.result + c.len.result) c.in_ok-entries.entries (vars_of c.still_leading-vars.result) c.term-term.ensures.term c.vote-vote.ensures.vote es (c.still_leading-vars.ensures.after ∙ ap (λ (v : Vars). still_leading (c.last-last.result + c.len.result) (vars_of v)) c.variables.ensures.vars) end c.requires.leads)) c.append_own.ensures.ok
