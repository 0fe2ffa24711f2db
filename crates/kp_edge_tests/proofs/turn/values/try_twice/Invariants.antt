use Rattle.kp_turn.specs.TurnSeats.{IsSeatOf}
use Rattle.kp_edge_tests.proofs.turn.values.try_twice.Given as goal

abbrev pub invariant-loop-2 : goal.invariant-loop-2
invariant-loop-2 g l = IsSeatOf l.turn l.seat
