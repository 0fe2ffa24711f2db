-- A seat of a stop word.
use Rattle.std.specs.Prelude.{◌≡◌}
use Rattle.atomic_table.specs.declared.shared.Seat.{Seat}
use Rattle.kp_turn.specs.declared.stop.StopWord.{StopWord}
use Rattle.kp_turn.specs.declared.stop.StopView.{StopView}

-- the seat is one of this stop word
pub record IsStopSeatOf (word : StopWord) (seat : Seat (Unit {0}) StopView) : Type 0 where
  pub same_table : seat.table_id ≡ word.table.shared.table_id

-- what a seat knows
abbrev pub stop_view : Seat (Unit {0}) StopView → StopView
stop_view seat = seat.me.0
