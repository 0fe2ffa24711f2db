-- The connection whose write was applied is answered, by some luck.
use Rattle.std.specs.Prelude.{◌≡◌, ℕ, Bool, true, false, List, Option, Some, None}
use Rattle.std.specs.FinMap as map
use Rattle.kp_model.specs.State.{State}
use Rattle.kp_watch.specs.declared.watch.Watch.{Watch}
use Rattle.kp_conn.specs.Connection.{Connection, is_lost}
use Rattle.kp_step.specs.declared.seat.Seat.{Seat}
use Rattle.kp_step.specs.Choices.{Choices}
use Rattle.kp_step.specs.Node.{Seats}
use Rattle.kp_step.specs.Settling.{settled}
use Rattle.kp_step.specs.Tables.{Table, seated, settled_all}
use Rattle.kp_node.specs.Deciding.{IsSettled}
use Rattle.kp_node.specs.Resting.{OthersRest}

-- a seat is settled, and the watches are those behind it; one that was given up stays
abbrev pub SeatSettles : State → List Watch → List Watch → ℕ → Seat → Seat → Type 0
SeatSettles s ws ws' k x x' = (is_lost x.connection.phase ≡ false → (c : Connection) × ((x' ≡ seated x c) × IsSettled s k ws x.connection ws' c)) × (is_lost x.connection.phase ≡ true → (x' ≡ x) × (ws' ≡ ws))

-- where all others rest, settling all by these choices is settling the one
abbrev pub SettledIsAll : Type 0
SettledIsAll = (ch : Choices) (s : State) (t : Table) (k : ℕ) (x : Seat) → OthersRest t.seats k → map.get t.seats k ≡ Some x →
    let r = settled s k (ch.luck k).answers t.watches x.connection x.connection.queue in
    ((settled_all ch s t (map.keys t.seats)).seats ≡ map.insert t.seats k (seated x r.connection)) × ((settled_all ch s t (map.keys t.seats)).watches ≡ r.watches)
