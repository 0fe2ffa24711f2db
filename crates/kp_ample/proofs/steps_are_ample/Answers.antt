use Rattle.kp_ample.proofs.Steps.{steps_are_ample, steps_are_alike}
use Rattle.kp_ample.proofs.steps_are_ample.Goals as goal

pub returns-clause-ample : goal.returns-clause-ample
returns-clause-ample g c = steps_are_ample g.row.I.Denot

pub returns-clause-alike : goal.returns-clause-alike
returns-clause-alike g c = steps_are_alike g.row.I.Denot
