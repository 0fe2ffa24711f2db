-- Which of the paths so far begin the last one, where paths come in ascending order of their bytes.
use Rattle.std.specs.Prelude.{◌≡◌, ℕ, suc, ◌≤◌, ◌<◌, ◌==◌, Bool, true, false, if◌then◌else◌, List, [], ◌∷◌, length, take, get_or}
use Rattle.std.specs.declared.cmp.Ordering.TheVariants.{Less}
use Rattle.kp_model.specs.State.{path_cmp}

-- how many bytes both begin with
abbrev pub common : List ℕ → List ℕ → ℕ
common [] ys = 0
common (x ∷ xs) [] = 0
common (x ∷ xs) (y ∷ ys) = if x == y then suc (common xs ys) else 0

-- each is below those behind it
abbrev pub AreRising : List ℕ → Type 0
AreRising xs = (i j : ℕ) → i < j → j < length xs → get_or xs i 0 < get_or xs j 0

-- the first n are at most this, and the others are above
pub record ArePartedAt (most : ℕ) (xs : List ℕ) (n : ℕ) : Type 0 where
  pub within : n ≤ length xs
  pub below : (i : ℕ) → i < n → get_or xs i 0 ≤ most
  pub above : (i : ℕ) → n ≤ i → i < length xs → most < get_or xs i 0

-- the lengths, ascending, of those beginnings of the path that pass the test
pub record AreUps (test : List ℕ → Bool) (path : List ℕ) (ups : List ℕ) : Type 0 where
  pub rising : AreRising ups
  pub there : (l : ℕ) → l ≤ length path → test (take l path) ≡ true → (i : ℕ) × (i < length ups) × (get_or ups i 0 ≡ l)
  pub only : (i : ℕ) → i < length ups → (get_or ups i 0 ≤ length path) × (test (take (get_or ups i 0) path) ≡ true)

-- no path behind the last one passes the test
abbrev pub NoneBehind : (List ℕ → Bool) → List ℕ → Type 0
NoneBehind test last = (q : List ℕ) → path_cmp last q ≡ Less → test q ≡ false

-- the test is changed at this path alone
pub record ChangedAt (path : List ℕ) (value : Bool) (test new : List ℕ → Bool) : Type 0 where
  pub here : new path ≡ value
  pub elsewhere : (l : ℕ) → l < length path → new (take l path) ≡ test (take l path)
  pub fresh : test path ≡ false
