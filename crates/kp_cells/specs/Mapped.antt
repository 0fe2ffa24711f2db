-- A map with each value changed, the entries of a map that pass a test, and the set of their keys.
use Rattle.std.specs.Prelude.{Bool, false, map}
use Rattle.std.specs.Option.{option_map_or}
use Rattle.std.specs.declared.cmp.Ordering.{Ordering}
use Rattle.std.specs.FinMap as map
use Rattle.std.specs.FinMap.{FinMap}

module _ {K : Type 0} {R : K → K → Ordering} {X Y : Type 0} where
  -- f of each key and value
  unfoldable pub mapped : (K → X → Y) → FinMap R X → FinMap R Y
  mapped f m = map.from_sorted (map (λ e. (e.0, f e.0 e.1)) (map.entries m))

module _ {K : Type 0} {R : K → K → Ordering} {X : Type 0} where
  -- the entries that pass the test
  unfoldable pub kept : (K → X → Bool) → FinMap R X → FinMap R X
  kept p m = map.retain_keys m (λ q. option_map_or (p q) (map.get m q) false)

  -- the keys whose entries pass the test
  unfoldable pub chosen : (K → X → Bool) → FinMap R X → FinMap R (Unit {0})
  chosen p m = mapped (λ _ _. tt {0}) (kept p m)
