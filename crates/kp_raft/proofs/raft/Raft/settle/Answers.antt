use Rattle.std.proofs.Common.{◌∙◌}
use Rattle.kp_raft.proofs.StepFacts.{settle_steps}
use Rattle.kp_raft.proofs.raft.Raft.settle.Goals as goal

pub returns-clause-ok : goal.returns-clause-ok
returns-clause-ok g c = settle_steps {I = g.row.I.Denot} c.args.self.now c.self.inside.node c.self.inside.members c.self.inside.term c.self.inside.vote c.self.inside.log c.rebase.new.log c.self.inside.vars c.args.vars _ c.args.term c.args.vote c.args.index c.args.index_term c.args.answer c.ballot-ballot.result _ _ (c.self.view_is ∙ c.in_ok-spare.ensures.ok) c.rebase.ensures c.ballot-ballot.ensures.record c.give_base-records.ensures.records c.give_base-records.ensures.mail
