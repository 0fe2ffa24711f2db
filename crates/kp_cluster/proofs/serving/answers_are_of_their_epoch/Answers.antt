use Rattle.kp_cluster.proofs.EpochTurns.{answers_of_epoch, answers_shown}
use Rattle.kp_cluster.proofs.serving.answers_are_of_their_epoch.Goals as goal

pub returns-clause-state : goal.returns-clause-state
returns-clause-state g c = answers_of_epoch g.row.I.Denot

pub returns-clause-list : goal.returns-clause-list
returns-clause-list g c = answers_shown g.row.I.Denot
