use Rattle.kp_cluster.proofs.EpochMarks.{none_crosses, beginnings_show}
use Rattle.kp_cluster.proofs.EpochTurns.{answers_keep}
use Rattle.kp_cluster.proofs.serving.no_answer_crosses_an_attach.Goals as goal

pub returns-clause-order : goal.returns-clause-order
returns-clause-order g c = none_crosses

pub returns-clause-longer : goal.returns-clause-longer
returns-clause-longer g c = beginnings_show

pub returns-clause-told : goal.returns-clause-told
returns-clause-told g c = answers_keep g.row.I.Denot
