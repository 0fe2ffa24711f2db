-- What the indexes of the watches say of them.
use Rattle.std.specs.Prelude.{◌≡◌, ℕ, ◌<◌, Bool, false, List, Option, Some, None, nat_eq}
use Rattle.std.specs.BTreeSet.{BTreeSet}
use Rattle.kp_watch.specs.declared.watch.Watch.{Watch}
use Rattle.kp_watch.specs.declared.kind.Kind.{Kind}
use Rattle.kp_watch.specs.declared.sides.Sides.{Sides}
use Rattle.kp_watch.specs.Watching.{same_watch, is_of}
use Rattle.kp_watch.specs.Spots.{number_of}
use Rattle.kp_watch.specs.Owners.{is_own}
use Rattle.kp_watch.specs.Numbered.{Numbered, watch_at, AreOrdered}

-- whether the number that may be there is this one
abbrev pub is_number : Option ℕ → ℕ → Bool
is_number None n = false
is_number (Some m) n = nat_eq m n

-- whether the watch that may be there passes
abbrev pub passes : (Watch → Bool) → Option Watch → Bool
passes p None = false
passes p (Some w) = p w

-- each spot has the number of a connection exactly where that watch is the connection's, of this path and kind
abbrev pub AreBeside : Sides → (ℕ → Option Watch) → Type 0
AreBeside sides look = (k : Kind) (p : List ℕ) (c n : ℕ) → is_number (number_of sides k p c) n ≡ passes (same_watch (record { path = p; kind = k; conn = c })) (look n)

-- each connection has exactly the numbers of its watches
abbrev pub AreOwned : List (ℕ × BTreeSet ℕ) → (ℕ → Option Watch) → Type 0
AreOwned own look = (c n : ℕ) → is_own own c n ≡ passes (is_of c) (look n)

-- the numbers rise, and the indexes say what the watches are
pub record AreIndexed (es : Numbered) (sides : Sides) (own : List (ℕ × BTreeSet ℕ)) : Type 0 where
  pub ordered : AreOrdered es
  pub beside : AreBeside sides (watch_at es)
  pub owned : AreOwned own (watch_at es)

-- the numbers are below next
abbrev pub AreBelow : ℕ → Numbered → Type 0
AreBelow next es = (n : ℕ) (w : Watch) → watch_at es n ≡ Some w → n < next
