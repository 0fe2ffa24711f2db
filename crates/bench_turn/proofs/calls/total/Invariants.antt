use Rattle.std.proofs.Common.{All}
use Rattle.kp_turn.specs.TurnSeats.{IsSeatOf}
use Rattle.bench_turn.proofs.calls.total.Given as goal

abbrev pub invariant-loop : goal.invariant-loop
invariant-loop g l = IsSeatOf l.turn l.first × All (IsSeatOf l.turn) l.seats.items
