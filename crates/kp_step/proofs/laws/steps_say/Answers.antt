use Rattle.kp_step.proofs.Rows.{steps_say, answers_fit}
use Rattle.kp_step.proofs.laws.steps_say.Goals as goal

pub returns-clause-says : goal.returns-clause-says
returns-clause-says g c = steps_say g.row.I.Denot

pub returns-clause-fits : goal.returns-clause-fits
returns-clause-fits g c = answers_fit g.row.I.Denot
