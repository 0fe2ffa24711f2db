use Rattle.kp_ample.proofs.Steps.{ample_gives_up_none, ample_runs_give_up_none}
use Rattle.kp_ample.proofs.ample_gives_up_none.Goals as goal

pub returns-clause-step : goal.returns-clause-step
returns-clause-step g c = ample_gives_up_none g.row.I.Denot

pub returns-clause-runs : goal.returns-clause-runs
returns-clause-runs g c = ample_runs_give_up_none g.row.I.Denot
