-- A step in which few connections change: what is ready, who was given up and whose watches go is found at these alone.
use Rattle.std.specs.Prelude.{◌≡◌, ◌||◌, ◌+◌, ℕ, nat_eq, not, Bool, true, false, List, length, Option, Some, None, is_some}
use Rattle.std.specs.List.{filter, list_any, AllByRecursion}
use Rattle.std.specs.List.Sorted.{IsStrictlySortedBy}
use Rattle.std.specs.Ordering.{nat_cmp}
use Rattle.std.specs.FinMap as map
use Rattle.kp_watch.specs.declared.watch.Watch.{Watch}
use Rattle.kp_conn.specs.Connection.{is_lost}
use Rattle.kp_step.specs.declared.seat.Seat.{Seat}
use Rattle.kp_step.specs.Node.{Seats}
use Rattle.kp_step.specs.Step.{is_ready, keeps_watches, newly_ready, count_lost}

-- whether a connection is there and was given up
abbrev pub was_given_up : Option Seat → Bool
was_given_up None = false
was_given_up (Some s) = is_lost s.connection.phase

-- those of the connections for which nothing is ready, for which something is, and which were given up
abbrev pub idle_among : Seats → List ℕ → List ℕ
idle_among seats ks = filter (λ k. not (is_ready (map.get seats k))) ks

abbrev pub ready_among : Seats → List ℕ → List ℕ
ready_among seats ks = filter (λ k. is_ready (map.get seats k)) ks

abbrev pub lost_among : Seats → List ℕ → List ℕ
lost_among seats ks = filter (λ k. was_given_up (map.get seats k)) ks

-- all other connections are as they were, and none came or went
pub record ChangedAt (ks : List ℕ) (old new : Seats) : Type 0 where
  pub same : (q : ℕ) → list_any (nat_eq q) ks ≡ false → map.get new q ≡ map.get old q
  pub there : (q : ℕ) → is_some (map.get new q) ≡ is_some (map.get old q)

-- each watch is of a connection that is there and was not given up, or of one of these
abbrev pub AreKeptBut : List ℕ → Seats → List Watch → Type 0
AreKeptBut ks seats ws = AllByRecursion (λ (w : Watch). (keeps_watches (map.get seats w.conn) || list_any (nat_eq w.conn) ks) ≡ true) ws

-- what is ready anew is found among those that changed
abbrev pub ReadyAmong : Type 0
ReadyAmong = (ks : List ℕ) (old new : Seats) → IsStrictlySortedBy nat_cmp ks → ChangedAt ks old new → newly_ready old new ≡ ready_among new (idle_among old ks)

-- and so is how many were given up
abbrev pub LostAmong : Type 0
LostAmong = (ks : List ℕ) (old new : Seats) → IsStrictlySortedBy nat_cmp ks → ChangedAt ks old new → count_lost new + length (lost_among old ks) ≡ count_lost old + length (lost_among new ks)
