-- Beginnings of lists, of any items.
use Rattle.std.proofs.Common.{◌≡◌, ℕ, zero, suc, ◌<◌, ◌≤◌, ◌⊎◌, inl, inr, ⊎_elim, List, [], ◌∷◌, ◌++◌, length, take, Some, slice_get, refl, ap, sym, ◌∙◌, arith, append_assoc, length-append}
use mathlib.Core.List.{IsPrefix}

pub prefix_self : {A : Type 0} (xs : List A) → IsPrefix xs xs
prefix_self [] = ([], refl)
prefix_self (x ∷ xs) = let rest = prefix_self xs in (rest.0, ap (λ ys. x ∷ ys) rest.1)

pub prefix_trans : {A : Type 0} (xs ys zs : List A) → IsPrefix xs ys → IsPrefix ys zs → IsPrefix xs zs
prefix_trans xs ys zs p q = (p.0 ++ q.0, sym (append_assoc xs p.0 q.0) ∙ (ap (λ w. w ++ q.0) p.1 ∙ q.1))

pub prefix_append : {A : Type 0} (xs ys : List A) → IsPrefix xs (xs ++ ys)
prefix_append xs ys = (ys, refl)

pub prefix_length : {A : Type 0} (xs ys : List A) → IsPrefix xs ys → length xs ≤ length ys
prefix_length xs ys p = omega (arith, sym (ap length p.1) ∙ length-append xs p.0)

-- of two beginnings of one list the shorter begins the longer
pub prefix_shorter : {A : Type 0} (xs ys zs : List A) → IsPrefix xs zs → IsPrefix ys zs → length xs ≤ length ys → IsPrefix xs ys
prefix_shorter [] ys zs p q le = (ys, refl)
prefix_shorter (x ∷ xs) [] zs p q le = absurd (omega arith)
prefix_shorter (x ∷ xs) (y ∷ ys) [] p q le = absurd (cc (p.1))
prefix_shorter (x ∷ xs) (y ∷ ys) (z ∷ zs) p q le =
    let heads : x ≡ y = cc (p.1, q.1) in
    let rest = prefix_shorter xs ys zs (p.0, cc (p.1)) (q.0, cc (q.1)) (omega arith) in
    (rest.0, cc (heads, rest.1))

pub prefix_either : {A : Type 0} (xs ys zs : List A) → IsPrefix xs zs → IsPrefix ys zs → IsPrefix xs ys ⊎ IsPrefix ys xs
prefix_either xs ys zs p q = ⊎_elim
    (λ (l : length xs ≤ length ys). inl (prefix_shorter xs ys zs p q l))
    (λ (l : length ys ≤ length xs). inr (prefix_shorter ys xs zs q p l))
    (grind arith)

-- a beginning that is as long as the whole is the whole
pub prefix_whole : {A : Type 0} (xs ys : List A) → IsPrefix xs ys → length ys ≤ length xs → xs ≡ ys
prefix_whole [] [] p le = refl
prefix_whole [] (y ∷ ys) p le = absurd (omega arith)
prefix_whole (x ∷ xs) [] p le = absurd (cc (p.1))
prefix_whole (x ∷ xs) (y ∷ ys) p le =
    let rest = prefix_whole xs ys (p.0, cc (p.1)) (omega arith) in cc (p.1, rest)

-- a beginning of xs and one item more is one of xs, or the whole
pub prefix_snoc : {A : Type 0} (p xs : List A) (x : A) → IsPrefix p (xs ++ x ∷ []) → IsPrefix p xs ⊎ (p ≡ xs ++ x ∷ [])
prefix_snoc p xs x w = ⊎_elim
    (λ (le : length p ≤ length xs). inl (prefix_shorter p xs (xs ++ x ∷ []) w (prefix_append xs (x ∷ [])) le))
    (λ (gt : length xs < length p). inr (prefix_whole p (xs ++ x ∷ []) w (omega (arith, length-append xs (x ∷ [])))))
    (grind arith)

-- what stands in a beginning stands in the whole, at the same place
pub prefix_get : {A : Type 0} (xs ys : List A) (i : ℕ) (x : A) → IsPrefix xs ys → slice_get xs i ≡ Some x → slice_get ys i ≡ Some x
prefix_get [] ys i x p h = absurd cc
prefix_get (y ∷ xs) [] i x p h = absurd (cc (p.1))
prefix_get (y ∷ xs) (z ∷ ys) zero x p h = cc (p.1, h)
prefix_get (y ∷ xs) (z ∷ ys) (suc i) x p h = prefix_get xs ys i x (p.0, cc (p.1)) h

-- the first m items of a list begin it
pub take_prefix : {A : Type 0} (m : ℕ) (xs : List A) → IsPrefix (take m xs) xs
take_prefix zero xs = (xs, refl)
take_prefix (suc m) [] = ([], refl)
take_prefix (suc m) (x ∷ xs) = let rest = take_prefix m xs in (rest.0, ap (λ ys. x ∷ ys) rest.1)

-- up to an item at the place i there are i + 1
pub take_length : {A : Type 0} (i : ℕ) (xs : List A) (x : A) → slice_get xs i ≡ Some x → length (take (suc i) xs) ≡ suc i
take_length i [] x h = absurd cc
take_length zero (y ∷ xs) x h = refl
take_length (suc i) (y ∷ xs) x h = ap suc (take_length i xs x h)
