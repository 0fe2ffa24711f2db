-- Where all connections but one rest, settling that one is settling all.
use Rattle.std.specs.Prelude.{◌≡◌, ℕ, false, true, Option, Some, None}
use Rattle.std.specs.Ordering.{nat_cmp, eq_by_cmp}
use Rattle.std.specs.FinMap as map
use Rattle.kp_model.specs.State.{State}
use Rattle.kp_step.specs.declared.seat.Seat.{Seat}
use Rattle.kp_step.specs.Choices.{Choices}
use Rattle.kp_step.specs.Node.{Seats}
use Rattle.kp_step.specs.Settling.{is_at_rest}
use Rattle.kp_step.specs.Tables.{Table, settled_one, settled_all}

-- what is at a place rests
abbrev pub IsResting : Option Seat → Type 0
IsResting None = Unit {0}
IsResting (Some x) = is_at_rest x.connection.queue ≡ true

-- each connection with another number rests
abbrev pub OthersRest : Seats → ℕ → Type 0
OthersRest m k = (j : ℕ) → eq_by_cmp nat_cmp j k ≡ false → IsResting (map.get m j)

-- settling that one is settling all
abbrev pub OneIsAll : Type 0
OneIsAll = (ch : Choices) (s : State) (t : Table) (k : ℕ) → OthersRest t.seats k → settled_all ch s t (map.keys t.seats) ≡ settled_one ch s t k
