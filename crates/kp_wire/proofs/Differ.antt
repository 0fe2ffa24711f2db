-- Whole numbers that differ, as a test tells.
use Rattle.std.proofs.Common.{◌≡◌, ℤ, Bool, true, false, refl}
use Rattle.std.specs.Ordering.{int_eq}
use Rattle.std.proofs.lemmas.Bool.Decides.{Decides-int_eq}

not_true : (b : Bool) → ¬ (b ≡ true) → b ≡ false
not_true true h = absurd (h refl)
not_true false h = refl

pub differ : (a b : ℤ) → ¬ (a ≡ b) → int_eq a b ≡ false
differ a b h = not_true (int_eq a b) (λ e. h ((Decides-int_eq a b).0 e))
