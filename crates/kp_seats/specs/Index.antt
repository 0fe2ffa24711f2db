-- How the maps and the sets behind the table hang together.
use Rattle.std.specs.Prelude.{◌≡◌, ℕ, ◌<◌, Bool, true, List, [], ◌∷◌, Option, is_some, nat_eq}
use Rattle.std.specs.Map.{lookup}
use Rattle.std.specs.Ordering.{nat_cmp}
use Rattle.std.specs.HashMap.{HashMap, spare}
use Rattle.std.specs.BTreeSet.{BTreeSet, contains}
use Rattle.std.specs.FinMap as map
use Rattle.std.specs.FinMap.{FinMap}
use Rattle.kp_seats.specs.Serving.{Served, is_that}

module _ {X : Type 0} where
  -- what each number has
  abbrev pub at : List (ℕ × X) → ℕ → Option X
  at es q = lookup (nat_eq q) es

  -- the map of what the entries say
  abbrev pub base_of : List (ℕ × X) → FinMap nat_cmp X
  base_of [] = map.empty
  base_of (e ∷ es) = map.insert (base_of es) e.0 e.1

-- a connection is found by a session exactly where it serves it
abbrev pub AreTied : List (ℕ × ℕ) → List (ℕ × ℕ) → Type 0
AreTied sessions conns = (k session : ℕ) → is_that (at conns session) k ≡ is_that (at sessions k) session

-- where it is said so, one more fits
abbrev pub HasRoom : {S : Type 0} → Bool → HashMap ℕ ℕ S → HashMap ℕ ℕ S → Type 0
HasRoom has_room sessions conns = has_room ≡ true → (0 < spare sessions) × (0 < spare conns)

-- the numbers of the connections are those of the set, from 1 and below next; only connections that are there serve sessions
pub record AreSeated {S : Type 0} (next : ℕ) (seats : List (ℕ × S)) (numbers : BTreeSet ℕ) (sessions : Served) : Type 0 where
  pub begun : 0 < next
  pub ordered : (q : ℕ) → contains nat_cmp numbers q ≡ is_some (at seats q)
  pub within : (q : ℕ) → is_some (at seats q) ≡ true → (0 < q) × (q < next)
  pub seated : (q : ℕ) → is_some (map.get sessions q) ≡ true → is_some (at seats q) ≡ true
