-- The two halves of a function that was changed at one place, and tests of numbers.
use Rattle.std.proofs.Common.{◌≡◌, ℕ, ◌<◌, ◌≤◌, Bool, true, false, cond, ◌&&◌, refl, arith}
use Rattle.std.specs.Prelude.{nat_eq, nat_lt}
use Rattle.std.proofs.lemmas.Bool.Decides.{nat_tests}
use Rattle.kp_world.specs.Book.{set_at, set_at_both}

pub set_at_cases : {X : Type 0} (P : X → Type 0) (f : ℕ → X) (k : ℕ) (x : X) (j : ℕ) → (j ≡ k → P x) → ((j ≡ k → ⊥) → P (f j)) → P (set_at f k x j)
set_at_cases P f k x j same other = here (nat_eq j k) refl
  where
    here : (t : Bool) → nat_eq j k ≡ t → P (cond t x (f j))
    here true e = same (grind (arith, nat_tests))
    here false e = other (λ is. grind (arith, nat_tests))

pub set_at_both_cases : {X : Type 0} (P : X → Type 0) (f : ℕ → ℕ → X) (k t : ℕ) (x : X) (j u : ℕ) → (j ≡ k → u ≡ t → P x) → ((j ≡ k → u ≡ t → ⊥) → P (f j u)) → P (set_at_both f k t x j u)
set_at_both_cases P f k t x j u same other = here (nat_eq j k) (nat_eq u t) refl refl
  where
    here : (v w : Bool) → nat_eq j k ≡ v → nat_eq u t ≡ w → P (cond v (cond w x (f j u)) (f j u))
    here true true d e = same (grind (arith, nat_tests)) (grind (arith, nat_tests))
    here true false d e = other (λ is at. grind (arith, nat_tests))
    here false w d e = other (λ is at. grind (arith, nat_tests))

pub and_true : (x y : Bool) → (x && y) ≡ true → (x ≡ true) × (y ≡ true)
and_true true y e = (refl, e)
and_true false y e = absurd cc

pub true_and : (x y : Bool) → x ≡ true → y ≡ true → (x && y) ≡ true
true_and true y p q = q
true_and false y p q = absurd cc

pub and_false : (x y : Bool) → x ≡ true → (x && y) ≡ false → y ≡ false
and_false true y p q = q
and_false false y p q = absurd cc

pub less_test : (a b : ℕ) → a < b → nat_lt a b ≡ true
less_test a b h = grind (arith, nat_tests)

pub test_less : (a b : ℕ) → nat_lt a b ≡ true → a < b
test_less a b h = grind (arith, nat_tests)

pub test_not_less : (a b : ℕ) → nat_lt a b ≡ false → b ≤ a
test_not_less a b h = grind (arith, nat_tests)
