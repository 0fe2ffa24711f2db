-- What a crash keeps.
use Rattle.std.proofs.Common.{◌≡◌, inl, inr, ℕ, zero, suc, ◌+◌, ◌≤◌, ◌<◌, false, List, [], ◌∷◌, ◌++◌, length, take, drop, Option, Some, refl, ◌∙◌, ap, arith}
use Rattle.std.proofs.lemmas.Bool.Decides.{nat_tests, leb_tells}
use Rattle.std.specs.Prelude.{slice_get, unwrap_or}
use Rattle.kp_io.specs.Crash.{Wear, MayLeave, HasFront, IsButFor, settled, worn, shortened, is_within}

-- each of these ranges begins at k or behind it
pub AreBehind : ℕ → List (ℕ × ℕ) → Type 0
AreBehind k [] = Unit {0}
AreBehind k (s ∷ ss) = (k ≤ s.0) × AreBehind k ss

-- what was done keeps the first k bytes of these
pub record KeepsFront (k : ℕ) (xs : List ℕ) (w : Wear) : Type 0 where
  pub safe : w.safe ≡ xs
  pub long : k ≤ w.least
  pub short : k ≤ length xs
  pub behind : AreBehind k w.spans

outside : (k i : ℕ) (ss : List (ℕ × ℕ)) → AreBehind k ss → i < k → is_within ss i ≡ false
unfolding AreBehind
outside k i [] all lt = refl
outside k i (s ∷ ss) all lt =
    let rest = outside k i ss all.1 lt in
    let begin = all.0 in
    grind (arith, nat_tests)

some_same : (a b : ℕ) → Some a ≡ Some b → a ≡ b
some_same a b e = ap (λ (o : Option ℕ). unwrap_or o a) e

take_same : (k : ℕ) (c xs : List ℕ) → k ≤ length c → k ≤ length xs → ((i : ℕ) → i < k → slice_get c i ≡ slice_get xs i) → take k c ≡ take k xs
take_same zero c xs long short same = refl
take_same (suc k) [] xs long short same = absurd (omega arith)
take_same (suc k) (a ∷ c) [] long short same = absurd (omega arith)
take_same (suc k) (a ∷ c) (x ∷ xs) long short same =
    let head : a ≡ x = some_same a x (same zero (omega arith)) in
    let tail : take k c ≡ take k xs = take_same k c xs (omega arith) (omega arith) (λ i lt. same (suc i) (omega (arith, lt))) in
    λ i. head i ∷ tail i

all_same : (c xs : List ℕ) → length c ≡ length xs → ((i : ℕ) → i < length xs → slice_get c i ≡ slice_get xs i) → c ≡ xs
all_same [] [] long same = refl
all_same [] (x ∷ xs) long same = absurd (omega arith)
all_same (a ∷ c) [] long same = absurd (omega arith)
all_same (a ∷ c) (x ∷ xs) long same =
    let head : a ≡ x = some_same a x (same zero (omega arith)) in
    let tail : c ≡ xs = all_same c xs (omega (arith, long)) (λ i lt. same (suc i) (omega (arith, lt))) in
    λ i. head i ∷ tail i

but_one : (at : ℕ) (c xs : List ℕ) → at < length xs → length c ≡ length xs → ((i : ℕ) → i < length xs → (i ≡ at → ⊥) → slice_get c i ≡ slice_get xs i) → (x : ℕ) × (c ≡ take at xs ++ x ∷ drop (suc at) xs)
but_one at c [] lt long same = absurd (omega arith)
but_one at [] (x ∷ xs) lt long same = absurd (omega arith)
but_one zero (a ∷ c) (x ∷ xs) lt long same = (a, ap (λ (l : List ℕ). a ∷ l) (all_same c xs (omega (arith, long)) (λ i less. same (suc i) (omega (arith, less)) (λ is. absurd (omega (arith, is))))))
but_one (suc at) (a ∷ c) (x ∷ xs) lt long same =
    let head : a ≡ x = some_same a x (same zero (omega arith) (λ is. absurd (omega (arith, is)))) in
    let tail = but_one at c xs (omega (arith, lt)) (omega (arith, long)) (λ i less other. same (suc i) (omega (arith, less)) (λ is. other (omega (arith, is)))) in
    let rest = tail.1 in
    (tail.0, λ i. head i ∷ rest i)

-- the first k bytes are there after a crash
pub front_kept : (k : ℕ) (xs : List ℕ) (w : Wear) (c : List ℕ) → KeepsFront k xs w → MayLeave w c → HasFront k xs c
front_kept k xs w c keeps left =
    take_same k c xs (omega (arith, keeps.long, left.no_shorter)) keeps.short
    (λ i lt. left.stays i (omega (arith, lt, keeps.long)) (outside k i w.spans keeps.behind lt) ∙ ap (λ (l : List ℕ). slice_get l i) keeps.safe)

-- where nothing is unsynced, a crash leaves what is there
pub settled_kept : (xs c : List ℕ) → MayLeave (settled xs) c → c ≡ xs
settled_kept xs c left = all_same c xs (omega (arith, left.no_shorter, left.no_longer)) (λ i lt. left.stays i lt refl)

pub settled_left : (xs : List ℕ) → MayLeave (settled xs) xs
settled_left xs = record { no_shorter = omega arith; no_longer = omega arith; stays = λ i lt out. refl }

-- a byte that is written behind a sync may be any, and all others are there
pub byte_torn : (at : ℕ) (xs c : List ℕ) → at < length xs → MayLeave (worn at 1 (settled xs)) c → IsButFor at xs c
byte_torn at xs c lt left = (one.0, one.1 ∙ ap (λ (k : ℕ). take at xs ++ one.0 ∷ drop k xs) next)
  where
    next : suc at ≡ at + 1
    next = omega arith

    apart : (i : ℕ) → (i ≡ at → ⊥) → is_within ((at, 1) ∷ []) i ≡ false
    apart i other = elim (leb_tells at i) [
      | inl from ↦ elim (leb_tells (at + 1) i) [
        | inl past ↦ let le = past.1 in grind (arith, nat_tests)
        | inr less ↦ absurd (other (omega (arith, from.1, less.1)))
      ]
      | inr before ↦ let less = before.1 in grind (arith, nat_tests)
    ]

    one : (x : ℕ) × (c ≡ take at xs ++ x ∷ drop (suc at) xs)
    one = but_one at c xs lt (omega (arith, left.no_shorter, left.no_longer, lt)) (λ i less other. left.stays i less (apart i other))

-- ---- what keeps the front

pub settled_front : (k : ℕ) (xs : List ℕ) → k ≤ length xs → KeepsFront k xs (settled xs)
unfolding AreBehind
settled_front k xs le = record { safe = refl; long = le; short = le; behind = tt }

pub worn_front : (k : ℕ) (xs : List ℕ) (w : Wear) (at n : ℕ) → k ≤ at → KeepsFront k xs w → KeepsFront k xs (worn at n w)
unfolding AreBehind
worn_front k xs w at n le keeps = record { safe = keeps.safe; long = keeps.long; short = keeps.short; behind = (le, keeps.behind) }

pub shortened_front : (k : ℕ) (xs : List ℕ) (w : Wear) (n : ℕ) → k ≤ n → KeepsFront k xs w → KeepsFront k xs (shortened n w)
shortened_front k xs w n le keeps = record { safe = keeps.safe; long = omega (arith, le, keeps.long); short = keeps.short; behind = keeps.behind }
