use Rattle.kp_turn.specs.TurnSeats.{IsSeatOf}
use Rattle.kp_edge_tests.proofs.turn.call.Given as goal

abbrev pub invariant-loop-k : goal.invariant-loop-k
invariant-loop-k g l = IsSeatOf l.turn l.seat
