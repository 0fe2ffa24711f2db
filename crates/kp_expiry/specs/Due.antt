-- The sessions whose deadline has come, in their order.
use Rattle.std.specs.Prelude.{◌≡◌, ℕ, Bool, false, nat_eq, nat_le, List, Option, Some, None}
use Rattle.std.specs.List.{list_any, filter}
use Rattle.std.specs.List.Sorted.{IsStrictlySortedBy}
use Rattle.std.specs.declared.cmp.Ordering.{Ordering}
use Rattle.std.specs.Ordering.{nat_cmp, ordering_then}
use Rattle.std.specs.FinMap as map
use Rattle.std.specs.FinMap.{FinMap}
use Rattle.kp_expiry.specs.declared.heard.Heard.{Heard}
use Rattle.kp_expiry.specs.Deadline.{deadline}

-- pairs of a deadline and a session: by the deadline, and by the session where that is the same
abbrev pub pair_cmp : ℕ × ℕ → ℕ × ℕ → Ordering
pair_cmp x y = ordering_then (nat_cmp x.0 y.0) (nat_cmp x.1 y.1)

-- the deadline, or 0 where there is no session
abbrev pub deadline_in : Option Heard → ℕ
deadline_in None = 0
deadline_in (Some h) = deadline h

-- whether there is a session with a deadline of at most now
abbrev pub due_in : ℕ → Option Heard → Bool
due_in now None = false
due_in now (Some h) = nat_le (deadline h) now

-- sessions in the order of their deadlines, and of their numbers where these are the same
abbrev pub by_deadline : FinMap nat_cmp Heard → ℕ → ℕ → Ordering
by_deadline m a b = pair_cmp (deadline_in (map.get m a), a) (deadline_in (map.get m b), b)

-- exactly the sessions with a deadline of at most now, each once, by deadline and session
pub record ListsDue (m : FinMap nat_cmp Heard) (now : ℕ) (sessions : List ℕ) : Type 0 where
  pub members : (s : ℕ) → list_any (nat_eq s) sessions ≡ due_in now (map.get m s)
  pub sorted : IsStrictlySortedBy (by_deadline m) sessions

-- the map in the order of deadline and session
abbrev pub in_turn : (m : FinMap nat_cmp Heard) → FinMap (by_deadline m) Heard
in_turn m = map.from_entries (map.entries m)

-- the sessions of the map, in that order, that have a deadline of at most now
abbrev pub due : FinMap nat_cmp Heard → ℕ → List ℕ
due m now = filter (λ s. due_in now (map.get m s)) (map.keys (in_turn m))
