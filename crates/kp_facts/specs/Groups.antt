-- Values in groups, by keys.
use Rattle.std.specs.Prelude.{◌≡◌, ◌||◌, ◌&&◌, Bool, false, List, Option, Some, None, is_some, map}
use Rattle.std.specs.List.{list_any}
use Rattle.std.specs.declared.cmp.Ordering.{Ordering}
use Rattle.std.specs.Ordering.{eq_by_cmp}
use Rattle.std.specs.Map.{lookup}
use Rattle.std.specs.BTreeSet.{BTreeSet, contains}

module _ {K V : Type 0} (R : K → K → Ordering) where
  -- the values of a key, if it has some
  abbrev pub group_of : List (K × BTreeSet V) → K → Option (BTreeSet V)
  group_of groups k = lookup (eq_by_cmp R k) groups

  abbrev pub has_group : List (K × BTreeSet V) → K → Bool
  has_group groups k = is_some (group_of groups k)

  module _ (S : V → V → Ordering) where
    abbrev pub value_in : Option (BTreeSet V) → V → Bool
    value_in None v = false
    value_in (Some s) v = contains S s v

    -- whether a value is one of a key
    abbrev pub is_in : List (K × BTreeSet V) → K → V → Bool
    is_in groups k v = value_in (group_of groups k) v

-- the groups are those of these items: each has a key and a value
module _ {A K V : Type 0} (R : K → K → Ordering) (S : V → V → Ordering) (key : A → K) (value : A → V) where
  -- whether an item has this key, and this value too
  abbrev pub has_key : K → A → Bool
  has_key k x = eq_by_cmp R (key x) k

  abbrev pub has_both : K → V → A → Bool
  has_both k v x = eq_by_cmp R (key x) k && eq_by_cmp S (value x) v

  pub record Gathers (xs : List A) (groups : List (K × BTreeSet V)) : Type 0 where
    pub keys : (k : K) → has_group R groups k ≡ list_any (has_key k) xs
    pub values : (k : K) (v : V) → is_in R S groups k v ≡ list_any (has_both k v) xs

  -- they are so with the items that are left
  pub record GathersWith (xs left : List A) (groups : List (K × BTreeSet V)) : Type 0 where
    pub keys : (k : K) → (has_group R groups k || list_any (has_key k) left) ≡ list_any (has_key k) xs
    pub values : (k : K) (v : V) → (is_in R S groups k v || list_any (has_both k v) left) ≡ list_any (has_both k v) xs

-- keys with their values, where these are held as lists
abbrev pub shown : {K V W : Type 0} → (W → List V) → List (K × W) → List (K × List V)
shown items es = map (λ e. (e.0, items e.1)) es
