use Rattle.std.proofs.Common.{rules}
use Rattle.kp_turn.proofs.TurnSteps.{splits}
use Rattle.kp_turn.proofs.turn.Turn+T.split.Goals as goal

pub split_seat-requires : goal.split_seat-requires
split_seat-requires g c = (search rules, search rules, splits g.T.Storied.events g.T.Storied.steps _ _ _)
