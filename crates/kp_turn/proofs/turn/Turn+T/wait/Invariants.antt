use Rattle.std.proofs.Common.{◌≡◌}
use Rattle.kp_turn.proofs.TurnCalls.{Asks}
use Rattle.kp_turn.proofs.turn.Turn+T.wait.Given as goal

abbrev pub invariant-loop : goal.invariant-loop
invariant-loop g l = (l.seat.table_id ≡ l.fn.seat.table_id) × Asks l.fn.seat.me.0 l.seat.me
