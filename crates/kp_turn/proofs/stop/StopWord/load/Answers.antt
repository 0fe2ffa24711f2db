use Rattle.std.proofs.Common.{rules}
use Rattle.kp_turn.proofs.StopSteps.{stop_loads}
use Rattle.kp_turn.proofs.stop.StopWord.load.Goals as goal

pub load-requires : goal.load-requires
load-requires c = (search rules, search rules, stop_loads _ _ _)
