use Rattle.std.proofs.Common.{ap, ◌∙◌, ◌+◌, ℕ}
use Rattle.kp_raft.specs.Variables.{vars_of}
use Rattle.kp_raft.proofs.StepFacts.{if_ok, steps_as}
use Rattle.kp_raft.proofs.Elected.{stand_is}
use Rattle.kp_raft.proofs.raft.Raft.stand.Goals as goal

pub returns-clause-ok : goal.returns-clause-ok
returns-clause-ok g c = if_ok c.change.result (λ out. steps_as {I = g.row.I.Denot} c.args.self.now c.change.new.self _ _ out (stand_is g.row.I.Denot c.args.self.now.members c.numbers-node.result.1 c.args.self.now.node c.numbers-node.result.0 (c.term.result + 1) c.args.self.now.held (vars_of c.args.vars) c.in_ok-mails.mails (ap (λ (p : ℕ × ℕ). p.0) c.numbers-node.ensures.numbers) (ap (λ (p : ℕ × ℕ). p.1) c.numbers-node.ensures.numbers) (ap (λ (n : ℕ). n + 1) c.term.ensures.term) c.in_ok-mails.ensures)) c.change.ensures.ok
