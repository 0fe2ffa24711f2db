use Rattle.kp_ample.proofs.Steps.{runs_are_ample, started_runs_are_ample}
use Rattle.kp_ample.proofs.runs_are_ample.Goals as goal

pub returns-clause-later : goal.returns-clause-later
returns-clause-later g c = runs_are_ample g.row.I.Denot

pub returns-clause-start : goal.returns-clause-start
returns-clause-start g c = started_runs_are_ample g.row.I.Denot
