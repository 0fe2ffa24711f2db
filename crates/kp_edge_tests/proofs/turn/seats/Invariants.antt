use Rattle.std.proofs.Common.{All}
use Rattle.kp_turn.specs.TurnSeats.{IsSeatOf}
use Rattle.kp_edge_tests.proofs.turn.seats.Given as goal

abbrev pub invariant-loop : goal.invariant-loop
invariant-loop l = IsSeatOf l.turn l.first × All (IsSeatOf l.turn) l.seats.items
