-- The index of sessions is that of the live connections again, where few of them changed.
use Rattle.std.specs.Prelude.{◌≡◌, ℕ, false, nat_eq, if◌then◌else◌, is_some, Bool, List, Option}
use Rattle.std.specs.List.{list_any}
use Rattle.std.specs.FinMap as map
use Rattle.kp_seats.specs.Seating.{Seating, left}
use Rattle.kp_step.specs.declared.seat.Seat.{Seat}
use Rattle.kp_node.specs.Holding.{served_at}
use Rattle.kp_node.specs.Meaning.{IsIndexed}

-- whether there is a live connection
abbrev pub is_live : Option Seat → Bool
is_live o = is_some (served_at o)

-- the index is that of the live connections, but for these
abbrev pub IsServedBut : List ℕ → Seating Seat → Type 0
IsServedBut ks t = (q : ℕ) → list_any (nat_eq q) ks ≡ false → map.get t.sessions q ≡ served_at (map.get t.seats q)

-- one that isn't live leaves the index
abbrev pub tidied : Bool → Seating Seat → ℕ → Seating Seat
tidied b t k = if b then t else left t k

-- all but the index is as it was
abbrev pub SameBesideIndex : Seating Seat → Seating Seat → Type 0
SameBesideIndex t u = (u.seats ≡ t.seats) × ((u.next ≡ t.next) × (u.has_room ≡ t.has_room))

-- a walk that has these before it
abbrev pub TidySoFar : List ℕ → Seating Seat → Seating Seat → Type 0
TidySoFar rest t u = IsIndexed u × (IsServedBut rest u × SameBesideIndex t u)
