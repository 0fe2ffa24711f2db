-- What stands at a place of a list after a write, a push or a cut.
use Rattle.std.proofs.Common.{◌≡◌, ◌≢◌, ℕ, zero, suc, ◌<◌, ◌≤◌, List, [], ◌∷◌, ◌++◌, length, take, slice_get, Some, None, refl, ap, arith}
use Rattle.std.proofs.Math.ListN.{set}

module _ {A : Type 0} where
  pub at_set_here : (xs : List A) (i : ℕ) (y : A) → i < length xs → slice_get (set xs i y) i ≡ Some y
  at_set_here [] i y h = absurd (omega arith)
  at_set_here (x ∷ xs) zero y h = refl
  at_set_here (x ∷ xs) (suc i) y h = at_set_here xs i y (omega arith)

  pub at_set_other : (xs : List A) (i j : ℕ) (y : A) → j ≢ i → slice_get (set xs i y) j ≡ slice_get xs j
  at_set_other [] i j y h = refl
  at_set_other (x ∷ xs) zero zero y h = absurd (h refl)
  at_set_other (x ∷ xs) zero (suc j) y h = refl
  at_set_other (x ∷ xs) (suc i) zero y h = refl
  at_set_other (x ∷ xs) (suc i) (suc j) y h = at_set_other xs i j y (λ e. h (ap suc e))

  pub at_push_here : (xs : List A) (y : A) → slice_get (xs ++ y ∷ []) (length xs) ≡ Some y
  at_push_here [] y = refl
  at_push_here (x ∷ xs) y = at_push_here xs y

  pub at_push_other : (xs : List A) (j : ℕ) (y : A) → j ≢ length xs → slice_get (xs ++ y ∷ []) j ≡ slice_get xs j
  at_push_other [] zero y h = absurd (h refl)
  at_push_other [] (suc j) y h = refl
  at_push_other (x ∷ xs) zero y h = refl
  at_push_other (x ∷ xs) (suc j) y h = at_push_other xs j y (λ e. h (ap suc e))

  pub at_take : (n : ℕ) (xs : List A) (j : ℕ) → j < n → slice_get (take n xs) j ≡ slice_get xs j
  at_take zero xs j h = absurd (omega arith)
  at_take (suc n) [] j h = refl
  at_take (suc n) (x ∷ xs) zero h = refl
  at_take (suc n) (x ∷ xs) (suc j) h = at_take n xs j (omega arith)

  pub past_take : (n : ℕ) (xs : List A) (j : ℕ) → n ≤ j → slice_get (take n xs) j ≡ None
  past_take zero xs j h = refl
  past_take (suc n) [] j h = refl
  past_take (suc n) (x ∷ xs) zero h = absurd (omega arith)
  past_take (suc n) (x ∷ xs) (suc j) h = past_take n xs j (omega arith)
