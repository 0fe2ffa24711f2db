use Rattle.std.proofs.Common.{ap, ◌∙◌, ◌≡◌, ℕ, true, false, arith}
use Rattle.std.proofs.lemmas.Bool.Decides.{nat_tests}
use Rattle.kp_raft.specs.declared.vars.Vars.{Vars}
use Rattle.kp_raft.specs.Rules.{with_vote}
use Rattle.kp_raft.specs.Variables.{vars_of}
use Rattle.kp_raft.specs.Members.{running_of}
use Rattle.kp_raft.proofs.StepFacts.{if_ok, steps_as, vote_lost, vote_won}
use Rattle.kp_raft.proofs.Elected.{elected_adds}
use Rattle.kp_raft.proofs.raft.Raft.on_vote.Goals as goal

pub returns-then-not-is_elected-clause-ok : goal.returns-then-not-is_elected-clause-ok
returns-then-not-is_elected-clause-ok g c =
    let lost : c.is_elected.result ≡ false = grind (arith, nat_tests, c.if-not-is_elected.true) in
    if_ok c.same.result (λ out. steps_as {I = g.row.I.Denot} c.args.self.now c.same.new.self _ _ out (vote_lost g.row.I.Denot c.args.self.now.members c.numbers-members.result.1 c.args.self.now.node c.args.self.now.held (running_of c.args.self.now) c.args.from c.with_vote-vars.result c.is_elected.result (c.with_vote-vars.ensures.after ∙ ap (λ (x : Vars). with_vote (vars_of x) c.args.from) c.variables.ensures.vars) (ap (λ (p : ℕ × ℕ). p.1) c.numbers-members.ensures.numbers) c.is_elected.ensures lost)) c.same.ensures.ok

pub returns-clause-ok : goal.returns-clause-ok
returns-clause-ok g c =
    let won : c.is_elected.result ≡ true = grind (arith, nat_tests, c.if-not-is_elected.false) in
    if_ok c.lead_on.result (λ out. steps_as {I = g.row.I.Denot} c.args.self.now c.lead_on.new.self _ _ out (vote_won g.row.I.Denot c.args.self.now.members c.numbers-members.result.1 c.args.self.now.node c.args.self.now.held (running_of c.args.self.now) c.args.from c.with_vote-vars.result c.is_elected.result (c.with_vote-vars.ensures.after ∙ ap (λ (x : Vars). with_vote (vars_of x) c.args.from) c.variables.ensures.vars) (ap (λ (p : ℕ × ℕ). p.1) c.numbers-members.ensures.numbers) c.is_elected.ensures won)) c.lead_on.ensures.ok

pub returns-clause-free : goal.returns-clause-free
returns-clause-free g c = λ ready none.
    let won : c.is_elected.result ≡ true = grind (arith, nat_tests, c.if-not-is_elected.false) in
    absurd (elected_adds g.row.I.Denot c.args.self.now.members c.numbers-members.result.1 c.args.self.now.node c.args.self.now.held (running_of c.args.self.now) c.args.from c.with_vote-vars.result c.is_elected.result (c.with_vote-vars.ensures.after ∙ ap (λ (x : Vars). with_vote (vars_of x) c.args.from) c.variables.ensures.vars) (ap (λ (p : ℕ × ℕ). p.1) c.numbers-members.ensures.numbers) c.is_elected.ensures won none)
