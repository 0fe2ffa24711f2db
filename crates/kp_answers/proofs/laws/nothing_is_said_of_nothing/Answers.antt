use Rattle.kp_answers.proofs.Says.{unknown, missing, applied}
use Rattle.kp_answers.proofs.laws.nothing_is_said_of_nothing.Goals as goal

pub returns-clause-unknown : goal.returns-clause-unknown
returns-clause-unknown g c = unknown g.row.I.Denot

pub returns-clause-missing : goal.returns-clause-missing
returns-clause-missing g c = missing g.row.I.Denot

pub returns-clause-applied : goal.returns-clause-applied
returns-clause-applied g c = applied g.row.I.Denot
