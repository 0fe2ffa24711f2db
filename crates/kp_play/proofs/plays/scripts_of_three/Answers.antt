use Rattle.kp_play.proofs.Worked.{as_worked}
use Rattle.kp_play.proofs.plays.scripts_of_three.Goals as goal

pub returns : goal.returns
returns c = as_worked
