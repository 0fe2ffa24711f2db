-- Lists of keys in their order.
use Rattle.std.specs.Prelude.{◌≡◌, Bool, List}
use Rattle.std.specs.List.{list_any}
use Rattle.std.specs.List.Sorted.{IsStrictlySortedBy}
use Rattle.std.specs.declared.cmp.Ordering.{Ordering}
use Rattle.std.specs.Ordering.{eq_by_cmp, nat_cmp}
use Rattle.std.specs.FinMap.{FinMap}
use Rattle.kp_layers.specs.declared.history.Level.{Level}
use Rattle.kp_layers.specs.declared.history.Level.TheVariants.{Committed, Latest}
use Rattle.kp_layers.specs.Overlay.{Past, newest_of}

-- the keys stand in their order, and are those that pass the test
pub record Lists {K : Type 0} (R : K → K → Ordering) (f : K → Bool) (keys : List K) : Type 0 where
  pub sorted : IsStrictlySortedBy R keys
  pub members : (q : K) → list_any (eq_by_cmp R q) keys ≡ f q

-- the base map, or the map under all writes
abbrev pub at_level : {V : Type 0} → Level → Past V → FinMap nat_cmp V
at_level Committed p = p.base
at_level Latest p = newest_of p
