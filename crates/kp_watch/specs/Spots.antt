-- The watches of each path: their connections, each with the number of its watch.
use Rattle.std.specs.Prelude.{ℕ, List, [], Option, Some, None, String, string_bytes, nat_eq, map}
use Rattle.std.specs.List.{IsDistinct}
use Rattle.std.specs.Str.{bytes_eq}
use Rattle.std.specs.Map.{lookup}
use Rattle.indexmap.specs.IndexMap.{IndexMap}
use Rattle.kp_watch.specs.declared.kind.Kind.{Kind}
use Rattle.kp_watch.specs.declared.kind.Kind.TheVariants as kind
use Rattle.kp_watch.specs.declared.sides.Sides.{Sides}

-- connections, each with the number of its watch
abbrev pub Pairs : Type 0
Pairs = List (ℕ × ℕ)

-- the number of the connection's watch
abbrev pub number_among : Pairs → ℕ → Option ℕ
number_among ps c = lookup (nat_eq c) ps

-- each connection is there once
abbrev pub AreApart : Pairs → Type 0
AreApart ps = IsDistinct nat_eq (map (λ (e : ℕ × ℕ). e.0) ps)

module _ {S : Type 0} where
  -- what a spot has, if there is one
  abbrev pub pairs_in : Option (IndexMap ℕ ℕ S) → Pairs
  pairs_in None = []
  pairs_in (Some m) = m.entries

  -- the number of the connection's watch, if there is a spot and a watch of it there
  abbrev pub number_in : Option (IndexMap ℕ ℕ S) → ℕ → Option ℕ
  number_in r c = number_among (pairs_in r) c

  module _ {Z : Type 0} where
    -- the spot of a path
    abbrev pub spot_at : List (String Z × IndexMap ℕ ℕ S) → List ℕ → Option (IndexMap ℕ ℕ S)
    spot_at spots p = lookup (λ t. bytes_eq p (string_bytes t)) spots

    -- the number of the connection's watch of the path
    abbrev pub number_at : List (String Z × IndexMap ℕ ℕ S) → List ℕ → ℕ → Option ℕ
    number_at spots p c = number_in (spot_at spots p) c

-- what the spot of the path and the kind has
abbrev pub pairs_of : Sides → Kind → List ℕ → Pairs
pairs_of s kind.Data p = pairs_in (spot_at s.data.entries p)
pairs_of s kind.Child p = pairs_in (spot_at s.child.entries p)

-- the number of the connection's watch of the path and the kind
abbrev pub number_of : Sides → Kind → List ℕ → ℕ → Option ℕ
number_of s k p c = number_among (pairs_of s k p) c
