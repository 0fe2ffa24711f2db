use Rattle.kp_cluster.proofs.EpochTurns.{serving_begins, serving_goes_on, serving_in_runs, serving_from_before, starts_on, steps_on}
use Rattle.kp_cluster.proofs.serving.live_connections_are_current.Goals as goal

pub returns-clause-start : goal.returns-clause-start
returns-clause-start g c = serving_begins

pub returns-clause-step : goal.returns-clause-step
returns-clause-step g c = serving_goes_on g.row.I.Denot

pub returns-clause-runs : goal.returns-clause-runs
returns-clause-runs g c = serving_in_runs g.row.I.Denot

pub returns-clause-before : goal.returns-clause-before
returns-clause-before g c = serving_from_before

pub returns-clause-starts : goal.returns-clause-starts
returns-clause-starts g c = starts_on

pub returns-clause-steps : goal.returns-clause-steps
returns-clause-steps g c = steps_on g.row.I.Denot
