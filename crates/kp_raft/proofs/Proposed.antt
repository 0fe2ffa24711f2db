-- Bodies that a leader appends, one behind the other.
use Rattle.std.proofs.Common.{◌≡◌, ℕ, zero, suc, ◌+◌, ◌-◌, ◌≤◌, Bool, true, false, List, [], ◌∷◌, ◌++◌, length, length-append, append_assoc, append-nil, take, map, refl, sym, ◌∙◌, ap, arith}
use Rattle.std.specs.Prelude.{◌&&◌}
use Rattle.std.specs.List.{list_all}

take_none : {A : Type 0} (n : ℕ) → take {A = A} n [] ≡ []
take_none zero = refl
take_none (suc n) = refl

-- the first n of a list, one and then the rest
take_apart : {A : Type 0} (n : ℕ) (x : A) (xs : List A) → take n (x ∷ xs) ≡ take n (x ∷ []) ++ take (n - 1) xs
take_apart zero x xs = refl
take_apart {A} (suc n) x xs = let less : suc n - 1 ≡ n = omega arith in ap (λ (ys : List A). (x ∷ ys) ++ take n xs) (sym (take_none {A = A} n)) ∙ ap (λ (m : ℕ). take (suc n) (x ∷ []) ++ take m xs) (sym less)

len_one : {A : Type 0} (n : ℕ) (x : A) (left : ℕ) (m : ℕ) → left ≡ m - length (take n (x ∷ [])) → n ≡ m → left ≡ n - 1
len_one zero x left m is same = omega (arith, is, same)
len_one (suc n) x left m is same = omega (arith, is, same, one n) where
  one : (k : ℕ) → length (take (suc k) (x ∷ [])) ≡ 1
  one zero = refl
  one (suc k) = refl

pub one_more : {A B : Type 0} (f : A → B) (most : ℕ) (es new : List B) (x : A) (xs rest : List A) → xs ≡ x ∷ rest → new ≡ es ++ take (most - length es) (f x ∷ []) → new ++ take (most - length new) (map f rest) ≡ es ++ take (most - length es) (map f xs)
one_more {A} {B} f most es new x xs rest is added =
    let n : ℕ = most - length es in
    let len : length new ≡ length es + length (take (most - length es) (f x ∷ [])) = ap (λ (ys : List B). length ys) added ∙ length-append es (take (most - length es) (f x ∷ [])) in
    let less : most - length new ≡ (most - length es) - 1 = len_one (most - length es) (f x) (most - length new) (most - length es) (omega (arith, len)) refl in
    ap (λ (m : ℕ). new ++ take m (map f rest)) less
    ∙ ap (λ (ys : List B). ys ++ take ((most - length es) - 1) (map f rest)) added
    ∙ append_assoc es (take (most - length es) (f x ∷ [])) (take ((most - length es) - 1) (map f rest))
    ∙ ap (λ (ys : List B). es ++ ys) (sym (take_apart (most - length es) (f x) (map f rest)))
    ∙ ap (λ (ys : List A). es ++ take (most - length es) (map f ys)) (sym is)

pub none_more : {A B : Type 0} (f : A → B) (most : ℕ) (es whole : List B) (xs : List A) → length xs ≡ 0 → es ++ take (most - length es) (map f xs) ≡ whole → es ≡ whole
none_more {A} {B} f most es whole [] none is = sym (append-nil es) ∙ ap (λ (ys : List B). es ++ ys) (sym (take_none {A = B} (most - length es))) ∙ is
none_more f most es whole (x ∷ xs) none is = absurd (omega (arith, none))

both_true : (a b : Bool) → (a && b) ≡ true → (a ≡ true) × (b ≡ true)
both_true true b is = (refl, is)
both_true false b is = absurd (cc is)

pub head_in : {A : Type 0} (test : A → Bool) (x : A) (xs rest : List A) → xs ≡ x ∷ rest → list_all test xs ≡ true → test x ≡ true
head_in test x xs rest is all = (both_true (test x) (list_all test rest) (ap (λ ys. list_all test ys) (sym is) ∙ all)).0

pub rest_in : {A : Type 0} (test : A → Bool) (x : A) (xs rest : List A) → xs ≡ x ∷ rest → list_all test xs ≡ true → list_all test rest ≡ true
rest_in test x xs rest is all = (both_true (test x) (list_all test rest) (ap (λ ys. list_all test ys) (sym is) ∙ all)).1

pub more_left : {X : Type 0} {x : X} {xs rest : List X} {n m : ℕ} → n ≡ length xs → xs ≡ x ∷ rest → m + 1 ≡ n → m ≡ length rest
more_left {x = x} {xs = xs} {rest = rest} {n = n} {m = m} h e g = let same : length xs ≡ length (x ∷ rest) = ap length e in omega (arith, h, same, g)
