-- Keys by the groups of their values.
use Rattle.std.specs.Prelude.{◌≡◌, ℕ, zero, suc, ◌+◌, ◌-◌, Bool, true, false, cond, nat_eq, nat_lt, ◌&&◌, List, [], ◌∷◌, length, Option, Some, None, unwrap_or, option_and_then}
use Rattle.std.specs.Ordering.{nat_cmp}
use Rattle.std.specs.Map.{lookup}
use Rattle.std.specs.FinMap as map
use Rattle.std.specs.FinMap.{FinMap}
use Rattle.std.specs.BTreeMap as tree
use Rattle.std.specs.BTreeMap.{BTreeMap}
use Rattle.kp_layers.specs.Chains.{committed_in, HasChains}
use Rattle.kp_layers.specs.declared.cells.Cell.{Cell}
use Rattle.kp_layers.specs.declared.history.Write.{Write}

-- the count, or 0 where there is none
abbrev pub number : Option ℕ → ℕ
number o = unwrap_or o 0

-- the count, if it isn't 0
abbrev pub positive : ℕ → Option ℕ
positive zero = None
positive (suc n) = Some (suc n)

-- 1 where it is so, else 0
abbrev pub one : Bool → ℕ
one b = cond b 1 0

-- what the counts of a group have at the key
abbrev pub read : Option (BTreeMap ℕ ℕ) → ℕ → Option ℕ
read r k = option_and_then (λ m. tree.get nat_cmp m k) r

-- whether there are no counts, or at least one
abbrev pub has_keys : Option (BTreeMap ℕ ℕ) → Bool
has_keys None = true
has_keys (Some m) = nat_lt 0 (length m.entries)

module _ {G : Type 0} (eq : G → G → Bool) where
  -- whether there is a group and it is g
  abbrev pub is_group : Option G → G → Bool
  is_group None g = false
  is_group (Some h) g = eq h g

  -- how many values of the group the key has, if any
  abbrev pub count_at : List (G × BTreeMap ℕ ℕ) → G → ℕ → Option ℕ
  count_at groups g k = read (lookup (eq g) groups) k

  -- each group that has an entry has a key
  abbrev pub IsFilled : List (G × BTreeMap ℕ ℕ) → Type 0
  IsFilled groups = (g : G) → has_keys (lookup (eq g) groups) ≡ true

  -- the key has one value more in the group, if there is a group, and all else is as before
  pub record Adds (old new : List (G × BTreeMap ℕ ℕ)) (group : Option G) (key : ℕ) : Type 0 where
    pub counts : (g : G) (k : ℕ) → count_at new g k ≡ cond (is_group group g && nat_eq key k) (Some (number (count_at old g k) + 1)) (count_at old g k)
    pub filled : IsFilled old → IsFilled new

  -- the key has one value less in the group, if there is a group, and all else is as before
  pub record Takes (old new : List (G × BTreeMap ℕ ℕ)) (group : Option G) (key : ℕ) : Type 0 where
    pub counts : (g : G) (k : ℕ) → count_at new g k ≡ cond (is_group group g && nat_eq key k) (positive (number (count_at old g k) - 1)) (count_at old g k)
    pub filled : IsFilled old → IsFilled new

  -- all counts are as before
  pub record Keeps (old new : List (G × BTreeMap ℕ ℕ)) : Type 0 where
    pub counts : (g : G) (k : ℕ) → count_at new g k ≡ count_at old g k
    pub filled : IsFilled old → IsFilled new

  module _ {V : Type 0} (of : V → Option G) where
    -- whether there is a value and it is in the group
    abbrev pub is_of : G → Option V → Bool
    is_of g o = is_group (option_and_then of o) g

    -- whether the map has a value of the group at the key
    abbrev pub is_in : FinMap nat_cmp V → G → ℕ → Bool
    is_in m g k = is_of g (map.get m k)

    -- how many of the writes give the key a value of the group
    abbrev pub times : G → ℕ → List (Write V) → ℕ
    times g k [] = 0
    times g k (w ∷ ws) = one (nat_eq w.key k && is_of g w.value) + times g k ws

    -- each key is counted in each group as often as its value in the base map and its writes are of that group
    pub record HasIndex (groups : List (G × BTreeMap ℕ ℕ)) (cells : List (ℕ × Cell V)) (log : List (Write V)) : Type 0 where
      pub counted : (g : G) (k : ℕ) → count_at groups g k ≡ positive (one (is_of g (committed_in (lookup (nat_eq k) cells))) + times g k log)
      pub filled : IsFilled groups

-- the chains and the index are right
pub record IsSound {G V : Type 0} (eq : G → G → Bool) (of : V → Option G) (groups : List (G × BTreeMap ℕ ℕ)) (cells : List (ℕ × Cell V)) (log : List (Write V)) (first : ℕ) : Type 0 where
  pub chains : HasChains cells log first
  pub index : HasIndex eq of groups cells log
