-- The numbers of the children that each path has.
use Rattle.std.specs.Prelude.{◌≡◌, ℕ, Bool, true, false, List, [], ◌∷◌, Option, Some, None, String, string_bytes}
use Rattle.std.specs.Option.{option_map_or}
use Rattle.std.specs.Str.{bytes_eq}
use Rattle.std.specs.Ordering.{nat_cmp}
use Rattle.std.specs.Map.{lookup}
use Rattle.std.specs.BTreeSet.{BTreeSet, contains}
use Rattle.std.specs.FinMap as fin
use Rattle.std.specs.FinMap.{FinMap}
use Rattle.kp_model.specs.State.{is_child}
use Rattle.kp_cells.specs.Naming.{Naming, IsNaming, AreBelow}

-- whether the set, if there is one, has the number
abbrev pub kid_in : Option (BTreeSet ℕ) → ℕ → Bool
kid_in None n = false
kid_in (Some s) n = contains nat_cmp s n

abbrev pub has_one : List ℕ → Bool
has_one [] = false
has_one (n ∷ ns) = true

-- whether the set, if there is one, has a number
abbrev pub filled_in : Option (BTreeSet ℕ) → Bool
filled_in None = true
filled_in (Some s) = has_one s.keys

module _ {Z : Type 0} where
  -- the set of a path
  abbrev pub set_at : List (String Z × BTreeSet ℕ) → List ℕ → Option (BTreeSet ℕ)
  set_at kin p = lookup (λ t. bytes_eq p (string_bytes t)) kin

  -- whether the number is one of a child of the path
  abbrev pub is_kid : List (String Z × BTreeSet ℕ) → List ℕ → ℕ → Bool
  is_kid kin p n = kid_in (set_at kin p) n

  -- no set is empty
  abbrev pub AreFilled : List (String Z × BTreeSet ℕ) → Type 0
  AreFilled kin = (p : List ℕ) → filled_in (set_at kin p) ≡ true

  -- each path has the numbers of those texts that are its children
  pub record IsKin (kin : List (String Z × BTreeSet ℕ)) (texts : FinMap nat_cmp (List ℕ)) : Type 0 where
    pub kids : (p : List ℕ) (n : ℕ) → is_kid kin p n ≡ option_map_or (is_child p) (fin.get texts n) false
    pub filled : AreFilled kin

  -- the names are each other's, all their numbers are below next, and each path has the numbers of its children
  pub record AreInStep (next : ℕ) (sets : List (String Z × BTreeSet ℕ)) (names : Naming) : Type 0 where
    pub naming : IsNaming names
    pub below : AreBelow next names
    pub kin : IsKin sets names.texts
