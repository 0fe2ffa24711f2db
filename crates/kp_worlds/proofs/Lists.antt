-- Small facts about lists, and about what stands at a number.
use Rattle.std.proofs.Common.{◌≡◌, ℕ, zero, suc, ◌-◌, ◌<◌, ◌≤◌, Bool, true, false, cond, List, [], ◌∷◌, ◌++◌, length, set, slice_get, Option, Some, None, refl, sym, ap, subst, ◌∙◌, arith}
use Rattle.std.specs.Prelude.{nat_eq, nat_lt, nat_le, ◌&&◌}
use Rattle.std.specs.List.{AllByRecursion}
use Rattle.std.proofs.lemmas.Bool.Decides.{nat_tests}
use Rattle.kp_raft.specs.Numbers.{set_at}
use Rattle.kp_world.specs.Net.{is_member}
use Rattle.kp_play.specs.Stage.{at_number}

pub pick : {A : Type 0} (P : A → Type 0) (b : Bool) (x y : A) → (b ≡ true → P x) → (b ≡ false → P y) → P (cond b x y)
pick P true x y p q = p refl
pick P false x y p q = q refl

-- ---- of all items

module _ {X : Type 0} (P : X → Type 0) where
  -- of what is there
  abbrev pub OfSome : Option X → Type 0
  OfSome None = Unit {0}
  OfSome (Some x) = P x

  pub all_join : (xs ys : List X) → AllByRecursion P xs → AllByRecursion P ys → AllByRecursion P (xs ++ ys)
  all_join [] ys p q = q
  all_join (x ∷ xs) ys p q = (p.0, all_join xs ys p.1 q)

  all_get : (xs : List X) (i : ℕ) → AllByRecursion P xs → OfSome (slice_get xs i)
  all_get [] i p = tt
  all_get (x ∷ xs) zero p = p.0
  all_get (x ∷ xs) (suc i) p = all_get xs i p.1

  pub all_at : (xs : List X) (k : ℕ) → AllByRecursion P xs → OfSome (at_number xs k)
  all_at xs k p = pick OfSome (nat_lt 0 k) (slice_get xs (k - 1)) None (λ _. all_get xs (k - 1) p) (λ _. tt)

pub all_turn : {X : Type 0} (P Q : X → Type 0) → ((x : X) → P x → Q x) → (xs : List X) → AllByRecursion P xs → AllByRecursion Q xs
all_turn P Q f [] p = tt
all_turn P Q f (x ∷ xs) p = (f x p.0, all_turn P Q f xs p.1)

-- ---- at a number

some_not_none : {X : Type 0} (x : X) → None ≡ Some x → ⊥
some_not_none x e = absurd (cc e)

get_below : {X : Type 0} (xs : List X) (i : ℕ) (x : X) → slice_get xs i ≡ Some x → i < length xs
get_below [] i x e = absurd (some_not_none x e)
get_below (y ∷ xs) zero x e = omega arith
get_below (y ∷ xs) (suc i) x e = let less = get_below xs i x e in omega (arith, less)

get_set : {X : Type 0} (xs : List X) (i : ℕ) (x : X) → i < length xs → slice_get (set xs i x) i ≡ Some x
get_set [] i x less = absurd (omega (arith, less))
get_set (y ∷ xs) zero x less = refl
get_set (y ∷ xs) (suc i) x less = get_set xs i x (omega (arith, less))

get_other : {X : Type 0} (xs : List X) (i j : ℕ) (x : X) → (i ≡ j → ⊥) → slice_get (set xs i x) j ≡ slice_get xs j
get_other [] i j x differ = refl
get_other (y ∷ xs) zero zero x differ = absurd (differ refl)
get_other (y ∷ xs) zero (suc j) x differ = refl
get_other (y ∷ xs) (suc i) zero x differ = refl
get_other (y ∷ xs) (suc i) (suc j) x differ = get_other xs i j x (λ e. differ (ap suc e))

-- where something stands at a number, the number is from 1 to the length
pub record IsNumber (k n : ℕ) : Type 0 where
  pub some : 0 < k
  pub most : k ≤ n

at_is : {X : Type 0} (xs : List X) (k : ℕ) (x : X) (b : Bool) → nat_lt 0 k ≡ b → cond b (slice_get xs (k - 1)) None ≡ Some x → IsNumber k (length xs)
at_is xs k x true e there = let some : 0 < k = grind (arith, nat_tests) in let below = get_below xs (k - 1) x there in record { some = some; most = omega (arith, below, some) }
at_is xs k x false e there = absurd (some_not_none x there)

pub at_number_is : {X : Type 0} (xs : List X) (k : ℕ) (x : X) → at_number xs k ≡ Some x → IsNumber k (length xs)
at_number_is xs k x there = at_is xs k x (nat_lt 0 k) refl there

lt_true : (m n : ℕ) → m < n → nat_lt m n ≡ true
lt_true m n less = grind (arith, nat_tests)

le_true : (m n : ℕ) → m ≤ n → nat_le m n ≡ true
le_true m n le = grind (arith, nat_tests)

both_true : (a b : Bool) → a ≡ true → b ≡ true → (a && b) ≡ true
both_true true b e f = f
both_true false b e f = absurd (cc e)

pub member_is : (k n : ℕ) → IsNumber k n → is_member n k ≡ true
member_is k n i = both_true (nat_lt 0 k) (nat_le k n) (lt_true 0 k i.some) (le_true k n i.most)

one_some : {X : Type 0} (x y : X) → Some x ≡ Some y → x ≡ y
one_some x y e = cc e

-- of what stands at a number where one item is exchanged
module _ {X : Type 0} (P : ℕ → X → Type 0) (xs : List X) (k : ℕ) (x : X) (i : IsNumber k (length xs)) (p : P k x) (others : (j : ℕ) (y : X) → (j ≡ k → ⊥) → at_number xs j ≡ Some y → P j y) where
  at_same : (j : ℕ) (y : X) → j ≡ k → slice_get (set xs (k - 1) x) (j - 1) ≡ Some y → P j y
  at_same j y e at = subst (λ (m : ℕ). P m y) (sym e) (subst (P k) (one_some x y (sym (get_set xs (k - 1) x (omega (arith, i.some, i.most))) ∙ ap (λ m. slice_get (set xs (k - 1) x) (m - 1)) (sym e) ∙ at)) p)

  at_other : (j : ℕ) (y : X) → nat_lt 0 j ≡ true → (j ≡ k → ⊥) → slice_get (set xs (k - 1) x) (j - 1) ≡ Some y → P j y
  at_other j y some differ at =
      let above : 0 < j = grind (arith, nat_tests) in
      let apart : k - 1 ≡ j - 1 → ⊥ = λ e. differ (omega (arith, e, above, i.some)) in
      others j y differ (ap (λ b. cond b (slice_get xs (j - 1)) None) some ∙ sym (get_other xs (k - 1) (j - 1) x apart) ∙ at)

  at_by : (j : ℕ) (y : X) (b c : Bool) → nat_lt 0 j ≡ b → nat_eq j k ≡ c → cond b (slice_get (set xs (k - 1) x) (j - 1)) None ≡ Some y → P j y
  at_by j y true true e f at = at_same j y (grind (arith, nat_tests)) at
  at_by j y true false e f at = at_other j y e (λ is. grind (arith, nat_tests)) at
  at_by j y false c e f at = absurd (some_not_none y at)

  pub at_set : (j : ℕ) (y : X) → at_number (set xs (k - 1) x) j ≡ Some y → P j y
  at_set j y there = at_by j y (nat_lt 0 j) (nat_eq j k) refl refl there

-- ---- a function that was changed at one number

set_same : {X : Type 0} (f : ℕ → X) (k : ℕ) (x : X) (b : Bool) → nat_eq k k ≡ b → cond b x (f k) ≡ x
set_same f k x true e = refl
set_same f k x false e = grind (arith, nat_tests)

pub set_there : {X : Type 0} (f : ℕ → X) (k : ℕ) (x : X) → set_at f k x k ≡ x
set_there f k x = set_same f k x (nat_eq k k) refl

set_apart : {X : Type 0} (f : ℕ → X) (k j : ℕ) (x : X) (b : Bool) → nat_eq j k ≡ b → (j ≡ k → ⊥) → cond b x (f j) ≡ f j
set_apart f k j x true e differ = absurd (differ (grind (arith, nat_tests)))
set_apart f k j x false e differ = refl

pub set_elsewhere : {X : Type 0} (f : ℕ → X) (k j : ℕ) (x : X) → (j ≡ k → ⊥) → set_at f k x j ≡ f j
set_elsewhere f k j x differ = set_apart f k j x (nat_eq j k) refl differ
