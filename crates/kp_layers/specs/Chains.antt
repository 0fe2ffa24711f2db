-- How the cells and the log of a `History` hang together.
use Rattle.std.specs.Prelude.{◌≡◌, ℕ, zero, suc, ◌+◌, ◌-◌, ◌<◌, ◌≤◌, ◌^◌, Bool, true, cond, nat_eq, nat_lt, ◌||◌, List, [], ◌∷◌, ◌++◌, map, length, Option, Some, None, is_some}
use Rattle.std.specs.Ordering.{nat_cmp}
use Rattle.std.specs.FinMap as fin
use Rattle.std.specs.FinMap.{FinMap}
use Rattle.std.specs.Map.{lookup}
use Rattle.kp_layers.specs.Overlay.{put}
use Rattle.kp_layers.specs.declared.cells.Cell.{Cell}
use Rattle.kp_layers.specs.declared.history.Write.{Write}

-- one more than the place behind, or 1 where there is none behind and this is a write of the key
abbrev pub place_before : Bool → ℕ → ℕ
place_before same zero = cond same 1 0
place_before same (suc n) = suc (suc n)

-- how many keys have a value, once one of them has one or has none, where before it had one or had none
abbrev pub recounted : Bool → Bool → ℕ → ℕ
recounted before after count = cond before (cond after count (count - 1)) (cond after (count + 1) count)

module _ {V : Type 0} where
  -- the writes, as contracts see them
  abbrev pub shown : List (Write V) → List (ℕ × Option V)
  shown ws = map (λ w. (w.key, w.value)) ws

  -- the place of the last write of the key, counted from 1, or 0 where there is none
  abbrev pub place : ℕ → List (Write V) → ℕ
  place k [] = 0
  place k (w ∷ ws) = place_before (nat_eq k w.key) (place k ws)

  -- the value of the cell in the base map; none where there is no cell
  abbrev pub committed_in : Option (Cell V) → Option V
  committed_in None = None
  committed_in (Some c) = c.committed

  -- the number of the newest write of the cell; 0 where there is no cell
  abbrev pub newest_in : Option (Cell V) → ℕ
  newest_in None = 0
  newest_in (Some c) = c.newest

  -- whether the cell, if there is one, has a value in the base map or a write numbered above first
  abbrev pub holds : ℕ → Option (Cell V) → Bool
  holds first None = true
  holds first (Some c) = is_some c.committed || nat_lt first c.newest

  -- the base map
  abbrev pub base_of : List (ℕ × Cell V) → FinMap nat_cmp V
  base_of [] = fin.empty
  base_of (e ∷ es) = put (base_of es) e.0 e.1.committed

  -- so many keys have a value in the base map; and no more than first, the number of writes that were made on it
  pub record IsCounted (cells : List (ℕ × Cell V)) (first count : ℕ) : Type 0 where
    pub many : count ≡ fin.len (base_of cells)
    pub below : count ≤ first

  -- each cell names the newest write of its key, and each write the one before it; no cell is empty
  pub record HasChains (cells : List (ℕ × Cell V)) (log : List (Write V)) (first : ℕ) : Type 0 where
    pub newest : (k : ℕ) → newest_in (lookup (nat_eq k) cells) - first ≡ place k log
    pub previous : (before after : List (Write V)) (w : Write V) → log ≡ before ++ w ∷ after → w.previous - first ≡ place w.key before
    pub filled : (k : ℕ) → holds first (lookup (nat_eq k) cells) ≡ true
    pub fits : first + length log < 2 ^ 64

  -- the cell of the key has this newest number, and all else is as before
  pub record ChangesNewest (old new : List (ℕ × Cell V)) (key number : ℕ) : Type 0 where
    pub there : (k : ℕ) → is_some (lookup (nat_eq k) new) ≡ cond (nat_eq key k) true (is_some (lookup (nat_eq k) old))
    pub newest : (k : ℕ) → newest_in (lookup (nat_eq k) new) ≡ cond (nat_eq key k) number (newest_in (lookup (nat_eq k) old))
    pub committed : (k : ℕ) → committed_in (lookup (nat_eq k) new) ≡ committed_in (lookup (nat_eq k) old)

  -- the cell of the key has this committed value, and all else is as before
  pub record ChangesCommitted (old new : List (ℕ × Cell V)) (key : ℕ) (value : Option V) : Type 0 where
    pub there : (k : ℕ) → is_some (lookup (nat_eq k) new) ≡ cond (nat_eq key k) true (is_some (lookup (nat_eq k) old))
    pub newest : (k : ℕ) → newest_in (lookup (nat_eq k) new) ≡ newest_in (lookup (nat_eq k) old)
    pub committed : (k : ℕ) → committed_in (lookup (nat_eq k) new) ≡ cond (nat_eq key k) value (committed_in (lookup (nat_eq k) old))

  -- the cell of the key goes, and all else is as before
  abbrev pub Removes : List (ℕ × Cell V) → List (ℕ × Cell V) → ℕ → Type 0
  Removes old new key = (k : ℕ) → lookup (nat_eq k) new ≡ cond (nat_eq key k) None (lookup (nat_eq k) old)

  -- the number is the newest of the key, where numbers of at most first name no write; the key has a cell only if that holds something
  pub record Renumbers (first : ℕ) (old new : List (ℕ × Cell V)) (key number : ℕ) : Type 0 where
    pub newest : (k : ℕ) → newest_in (lookup (nat_eq k) new) - first ≡ cond (nat_eq key k) number (newest_in (lookup (nat_eq k) old)) - first
    pub committed : (k : ℕ) → committed_in (lookup (nat_eq k) new) ≡ committed_in (lookup (nat_eq k) old)
    pub filled : (k : ℕ) → holds first (lookup (nat_eq k) new) ≡ cond (nat_eq key k) true (holds first (lookup (nat_eq k) old))

  -- the value is the committed one of the key; the key has a cell only if that holds something
  pub record Commits (first : ℕ) (old new : List (ℕ × Cell V)) (key : ℕ) (value : Option V) : Type 0 where
    pub newest : (k : ℕ) → newest_in (lookup (nat_eq k) new) - first ≡ newest_in (lookup (nat_eq k) old) - first
    pub committed : (k : ℕ) → committed_in (lookup (nat_eq k) new) ≡ cond (nat_eq key k) value (committed_in (lookup (nat_eq k) old))
    pub filled : (k : ℕ) → holds first (lookup (nat_eq k) new) ≡ cond (nat_eq key k) true (holds first (lookup (nat_eq k) old))
