use Rattle.std.proofs.Common.{arith, ap, sym, ◌+◌, ◌∙◌, ◌≡◌, ℕ, true, false}
use Rattle.std.proofs.lemmas.Bool.Decides.{nat_tests}
use Rattle.kp_raft.specs.declared.vars.Vars.{Vars}
use Rattle.kp_raft.specs.Rules.{candidate}
use Rattle.kp_raft.specs.Variables.{vars_of}
use Rattle.kp_raft.specs.Members.{running_of}
use Rattle.kp_raft.proofs.StepFacts.{if_ok, steps_as}
use Rattle.kp_raft.proofs.Elected.{timeout_wins, timeout_asks}
use Rattle.kp_raft.proofs.raft.Raft.on_timeout.Goals as goal

pub returns-then-is_elected-clause-ok : goal.returns-then-is_elected-clause-ok
returns-then-is_elected-clause-ok g c =
    let may : c.may_stand.result ≡ true = grind (arith, nat_tests, c.if-not-may_stand.false) in
    let after : vars_of c.standing-vars.result ≡ candidate c.args.self.now.node (running_of c.args.self.now) = c.standing-vars.ensures.after ∙ ap (λ (v : Vars). candidate c.numbers-node.result.0 (vars_of v)) c.variables-vars.ensures.vars ∙ ap (λ (p : ℕ × ℕ). candidate p.0 (running_of c.args.self.now)) c.numbers-node.ensures.numbers in
    if_ok c.lead.result (λ out. steps_as {I = g.row.I.Denot} c.args.self.now c.lead.new.self _ _ out (timeout_wins g.row.I.Denot c.args.self.now.members c.numbers-node.result.1 c.args.self.now.node c.numbers-node.result.0 (c.term.result + 1) c.args.self.now.held (running_of c.args.self.now) c.standing-vars.result c.is_elected.result (sym c.may_stand.ensures ∙ may) (ap (λ (p : ℕ × ℕ). p.0) c.numbers-node.ensures.numbers) (ap (λ (n : ℕ). n + 1) c.term.ensures.term) after (ap (λ (p : ℕ × ℕ). p.1) c.numbers-node.ensures.numbers) c.is_elected.ensures c.if-is_elected.true)) c.lead.ensures.ok

pub returns-clause-ok : goal.returns-clause-ok
returns-clause-ok g c =
    let may : c.may_stand.result ≡ true = grind (arith, nat_tests, c.if-not-may_stand.false) in
    let after : vars_of c.standing-vars.result ≡ candidate c.args.self.now.node (running_of c.args.self.now) = c.standing-vars.ensures.after ∙ ap (λ (v : Vars). candidate c.numbers-node.result.0 (vars_of v)) c.variables-vars.ensures.vars ∙ ap (λ (p : ℕ × ℕ). candidate p.0 (running_of c.args.self.now)) c.numbers-node.ensures.numbers in
    if_ok c.stand.result (λ out. steps_as {I = g.row.I.Denot} c.args.self.now c.stand.new.self _ _ out (timeout_asks g.row.I.Denot c.args.self.now.members c.numbers-node.result.1 c.args.self.now.node c.args.self.now.held (running_of c.args.self.now) c.standing-vars.result c.is_elected.result (sym c.may_stand.ensures ∙ may) after (ap (λ (p : ℕ × ℕ). p.1) c.numbers-node.ensures.numbers) c.is_elected.ensures c.if-is_elected.false)) c.stand.ensures.ok
