use Rattle.std.proofs.Common.{rules}
use Rattle.kp_turn.proofs.TurnSteps.{loads}
use Rattle.kp_turn.proofs.OwnEvents.{sees_own}
use Rattle.kp_turn.proofs.turn.Turn+T.count.Goals as goal

pub load-requires : goal.load-requires
load-requires g c = (search rules, search rules, loads g.T.Storied.events g.T.Storied.steps _ _ _ _)

pub returns-clause-own : goal.returns-clause-own
returns-clause-own g c = (sees_own _ _ c.load.ensures.2.0 c.requires.seat.saw_own).0
