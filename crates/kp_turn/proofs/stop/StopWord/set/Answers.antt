use Rattle.std.proofs.Common.{rules}
use Rattle.kp_turn.proofs.StopSteps.{stop_sets}
use Rattle.kp_turn.proofs.stop.StopWord.set.Goals as goal

pub store-requires : goal.store-requires
store-requires c = (search rules, search rules, stop_sets _ _ _)
