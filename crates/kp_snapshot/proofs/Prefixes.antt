-- Two lists of bytes up to where they part.
use Rattle.std.proofs.Common.{◌≡◌, ℕ, zero, suc, ◌≤◌, ◌<◌, Bool, true, false, cond, eqb, List, [], ◌∷◌, length, take, drop, get_or, refl, sym, ap, ◌∙◌, arith}
use Rattle.std.specs.Prelude.{nat_lt}
use Rattle.std.specs.Ordering.{is_lt, ordering_then}
use Rattle.std.specs.declared.cmp.Ordering.TheVariants.{Less, Equal, Greater}
use Rattle.std.proofs.lemmas.Bool.{eqb-true}
use Rattle.std.proofs.lemmas.Bool.Decides.{nat_tests}
use Rattle.kp_model.specs.State.{path_cmp}
use Rattle.kp_snapshot.specs.Ups.{common}

-- up to there they are alike
pub alike : (a b : List ℕ) (l : ℕ) → l ≤ common a b → take l a ≡ take l b
alike a b zero le = refl
alike [] b (suc l) le = absurd (omega (arith, le))
alike (x ∷ a) [] (suc l) le = absurd (omega (arith, le))
alike (x ∷ a) (y ∷ b) (suc l) le = alike_by a b x y l (eqb x y) refl le (alike a b l)
  where
    alike_by : (a b : List ℕ) (x y l : ℕ) (t : Bool) → eqb x y ≡ t → suc l ≤ cond t (suc (common a b)) 0 → (l ≤ common a b → take l a ≡ take l b) → take (suc l) (x ∷ a) ≡ take (suc l) (y ∷ b)
    alike_by a b x y l true e le more = let s : x ≡ y = eqb-true x y e in λ i. s i ∷ more (omega (arith, le)) i
    alike_by a b x y l false e le more = absurd (omega (arith, le))

pub not_longer : (a b : List ℕ) → (common a b ≤ length a) × (common a b ≤ length b)
not_longer [] b = (omega arith, omega arith)
not_longer (x ∷ a) [] = (omega arith, omega arith)
not_longer (x ∷ a) (y ∷ b) = by (eqb x y) (not_longer a b)
  where
    by : (t : Bool) → (common a b ≤ length a) × (common a b ≤ length b) → (cond t (suc (common a b)) 0 ≤ suc (length a)) × (cond t (suc (common a b)) 0 ≤ suc (length b))
    by true s = (omega (arith, s.0), omega (arith, s.1))
    by false s = (omega arith, omega arith)

-- what b begins with beyond there is behind a, where b is
pub beyond : (a b : List ℕ) (l : ℕ) → is_lt (path_cmp a b) ≡ true → common a b < l → path_cmp a (take l b) ≡ Less
beyond a b zero less lt = absurd (omega (arith, lt))
beyond [] [] (suc l) less lt = absurd cc
beyond [] (y ∷ b) (suc l) less lt = refl
beyond (x ∷ a) [] (suc l) less lt = absurd cc
beyond (x ∷ a) (y ∷ b) (suc l) less lt = by (nat_lt x y) (eqb x y) less lt (beyond a b l)
  where
    by : (s t : Bool) → is_lt (ordering_then (cond s Less (cond t Equal Greater)) (path_cmp a b)) ≡ true → cond t (suc (common a b)) 0 < suc l → (is_lt (path_cmp a b) ≡ true → common a b < l → path_cmp a (take l b) ≡ Less) → ordering_then (cond s Less (cond t Equal Greater)) (path_cmp a (take l b)) ≡ Less
    by true t less lt more = refl
    by false true less lt more = more less (omega (arith, lt))
    by false false less lt more = absurd cc

-- ---- the common beginning, byte by byte

same_eqb : (x y : ℕ) → x ≡ y → eqb x y ≡ true
same_eqb x y e = grind (arith, nat_tests)

pub one_more : (a b : List ℕ) (n : ℕ) → n < length a → n < length b → get_or a n 0 ≡ get_or b n 0 → common (drop n a) (drop n b) ≡ suc (common (drop (suc n) a) (drop (suc n) b))
one_more [] b n lt lu e = absurd (omega (arith, lt))
one_more (x ∷ a) [] n lt lu e = absurd (omega (arith, lu))
one_more (x ∷ a) (y ∷ b) zero lt lu e = ap (λ (t : Bool). cond t (suc (common a b)) 0) (same_eqb x y e)
one_more (x ∷ a) (y ∷ b) (suc n) lt lu e = one_more a b n (omega (arith, lt)) (omega (arith, lu)) e

none_left : (a : List ℕ) (n : ℕ) → length a ≤ n → drop n a ≡ []
none_left [] zero le = refl
none_left [] (suc n) le = refl
none_left (x ∷ a) zero le = absurd (omega (arith, le))
none_left (x ∷ a) (suc n) le = none_left a n (omega (arith, le))

with_none : (a : List ℕ) → common a [] ≡ 0
with_none [] = refl
with_none (x ∷ a) = refl

pub left_ends : (a b : List ℕ) (n : ℕ) → length a ≤ n → common (drop n a) (drop n b) ≡ 0
left_ends a b n le = ap (λ (u : List ℕ). common u (drop n b)) (none_left a n le)

pub right_ends : (a b : List ℕ) (n : ℕ) → length b ≤ n → common (drop n a) (drop n b) ≡ 0
right_ends a b n le = ap (λ (u : List ℕ). common (drop n a) u) (none_left b n le) ∙ with_none (drop n a)

pub they_part : (a b : List ℕ) (n : ℕ) → n < length a → n < length b → eqb (get_or a n 0) (get_or b n 0) ≡ false → common (drop n a) (drop n b) ≡ 0
they_part [] b n lt lu e = absurd (omega (arith, lt))
they_part (x ∷ a) [] n lt lu e = absurd (omega (arith, lu))
they_part (x ∷ a) (y ∷ b) zero lt lu e = ap (λ (t : Bool). cond t (suc (common a b)) 0) e
they_part (x ∷ a) (y ∷ b) (suc n) lt lu e = they_part a b n (omega (arith, lt)) (omega (arith, lu)) e

-- ---- which one is behind the other

pub right_is_first : (a b : List ℕ) → length b ≤ common a b → is_lt (path_cmp a b) ≡ false
right_is_first [] [] le = refl
right_is_first [] (y ∷ b) le = absurd (omega (arith, le))
right_is_first (x ∷ a) [] le = refl
right_is_first (x ∷ a) (y ∷ b) le = by (nat_lt x y) (eqb x y) (same_first x y) le (right_is_first a b)
  where
    same_first : (x y : ℕ) → eqb x y ≡ true → nat_lt x y ≡ false
    same_first x y e = grind (arith, nat_tests)

    by : (s t : Bool) → (t ≡ true → s ≡ false) → suc (length b) ≤ cond t (suc (common a b)) 0 → (length b ≤ common a b → is_lt (path_cmp a b) ≡ false) → is_lt (ordering_then (cond s Less (cond t Equal Greater)) (path_cmp a b)) ≡ false
    by s false one le more = absurd (omega (arith, le))
    by true true one le more = absurd (let e = one refl in cc)
    by false true one le more = more (omega (arith, le))

pub left_is_first : (a b : List ℕ) → length a ≤ common a b → common a b < length b → is_lt (path_cmp a b) ≡ true
left_is_first [] [] le lt = absurd (omega (arith, lt))
left_is_first [] (y ∷ b) le lt = refl
left_is_first (x ∷ a) [] le lt = absurd (omega (arith, le))
left_is_first (x ∷ a) (y ∷ b) le lt = by (nat_lt x y) (eqb x y) le lt (left_is_first a b)
  where
    by : (s t : Bool) → suc (length a) ≤ cond t (suc (common a b)) 0 → cond t (suc (common a b)) 0 < suc (length b) → (length a ≤ common a b → common a b < length b → is_lt (path_cmp a b) ≡ true) → is_lt (ordering_then (cond s Less (cond t Equal Greater)) (path_cmp a b)) ≡ true
    by s false le lt more = absurd (omega (arith, le))
    by true true le lt more = refl
    by false true le lt more = more (omega (arith, le)) (omega (arith, lt))

pub byte_decides : (a b : List ℕ) → common a b < length a → common a b < length b → is_lt (path_cmp a b) ≡ nat_lt (get_or a (common a b) 0) (get_or b (common a b) 0)
byte_decides [] b lt lu = absurd (omega (arith, lt))
byte_decides (x ∷ a) [] lt lu = absurd (omega (arith, lu))
byte_decides (x ∷ a) (y ∷ b) lt lu = by (nat_lt x y) (eqb x y) refl (same_first x y) lt lu (byte_decides a b)
  where
    same_first : (x y : ℕ) → eqb x y ≡ true → nat_lt x y ≡ false
    same_first x y e = grind (arith, nat_tests)

    by : (s t : Bool) → nat_lt x y ≡ s → (t ≡ true → s ≡ false) → cond t (suc (common a b)) 0 < suc (length a) → cond t (suc (common a b)) 0 < suc (length b) → (common a b < length a → common a b < length b → is_lt (path_cmp a b) ≡ nat_lt (get_or a (common a b) 0) (get_or b (common a b) 0)) → is_lt (ordering_then (cond s Less (cond t Equal Greater)) (path_cmp a b)) ≡ nat_lt (get_or (x ∷ a) (cond t (suc (common a b)) 0) 0) (get_or (y ∷ b) (cond t (suc (common a b)) 0) 0)
    by true false is one lt lu more = sym is
    by false false is one lt lu more = sym is
    by true true is one lt lu more = absurd (let e = one refl in cc)
    by false true is one lt lu more = more (omega (arith, lt)) (omega (arith, lu))
