use Rattle.std.proofs.Common.{rules}
use Rattle.kp_turn.proofs.StopSteps.{stop_splits}
use Rattle.kp_turn.proofs.stop.StopWord.split.Goals as goal

pub split_seat-requires : goal.split_seat-requires
split_seat-requires c = (search rules, search rules, stop_splits _ _)
