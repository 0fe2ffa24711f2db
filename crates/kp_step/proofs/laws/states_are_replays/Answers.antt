use Rattle.kp_step.proofs.Lawful.{states_are_replays}
use Rattle.kp_step.proofs.laws.states_are_replays.Goals as goal

pub returns : goal.returns
returns g c = states_are_replays g.row.I.Denot
