-- A seat of a turn, between two calls.
use Rattle.std.specs.Prelude.{◌≡◌}
use Rattle.std.specs.declared.snapshot.Snapshot.{Snapshot}
use Rattle.atomic_table.specs.declared.shared.Seat.{Seat}
use Rattle.kp_turn.specs.declared.turn.TurnOf.{TurnOf}
use Rattle.kp_turn.specs.declared.view.TurnView.{TurnView}
use Rattle.kp_turn.specs.declared.view.TurnSlot.{TurnSlot}
use Rattle.kp_turn.specs.TurnView.{SawOwn}
use Rattle.kp_turn.specs.TurnMoves.{IsOut}

-- the seat is one of this turn, which it doesn't have, and it has seen its own events
pub record IsSeatOf {T E A Q : Type 0} (turn : TurnOf (TurnSlot T E A) (TurnView T E A) (Snapshot T) Q) (seat : Seat (TurnSlot T E A) (TurnView T E A)) : Type 0 where
  pub same_table : seat.table_id ≡ turn.table.shared.table_id
  pub out : IsOut seat.me
  pub saw_own : SawOwn seat.me.0

-- what a seat knows
abbrev pub view : {T E A : Type 0} → Seat (TurnSlot T E A) (TurnView T E A) → TurnView T E A
view seat = seat.me.0
