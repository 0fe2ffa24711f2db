-- Where two lists have the same terms.
use Rattle.std.proofs.Common.{◌≡◌, ℕ, zero, suc, ◌<◌, ◌≤◌, Bool, true, false, cond, refl, sym, ap, ◌∙◌, arith, List, [], ◌∷◌, ◌++◌, length, length-append, append_assoc, take}
use Rattle.std.specs.Prelude.{nat_eq}
use Rattle.std.proofs.lemmas.Bool.Decides.{nat_tests}
use mathlib.Core.List.{IsPrefix}
use Rattle.kp_model.specs.LogEntry.{LogEntry}
use Rattle.kp_world.specs.Log.{last_term}
use Rattle.kp_raft.specs.Appends.{agreeing}
use Rattle.kp_world.proofs.Takes.{take_length}

pub last_term_cons : (x : LogEntry) (zs : List LogEntry) → 0 < length zs → last_term (x ∷ zs) ≡ last_term zs
last_term_cons x [] l = absurd (omega arith)
last_term_cons x (z ∷ zs) l = refl

pub last_term_append : (xs ys : List LogEntry) → 0 < length ys → last_term (xs ++ ys) ≡ last_term ys
last_term_append [] ys l = refl
last_term_append (x ∷ xs) ys l = last_term_cons x (xs ++ ys) (omega (arith, length-append xs ys)) ∙ last_term_append xs ys l

pub prefix_cancel : (f a b : List LogEntry) → IsPrefix (f ++ a) (f ++ b) → IsPrefix a b
prefix_cancel [] a b w = w
prefix_cancel (x ∷ f) a b w = prefix_cancel f a b (w.0, cc (w.1))

pub prefix_join : (f a b : List LogEntry) → IsPrefix a b → IsPrefix (f ++ a) (f ++ b)
prefix_join f a b w = (w.0, append_assoc f a w.0 ∙ ap (λ xs. f ++ xs) w.1)

pub agreeing_left : (xs ys : List LogEntry) → agreeing xs ys ≤ length xs
agreeing_left [] ys = omega arith
agreeing_left (x ∷ xs) [] = omega arith
agreeing_left (x ∷ xs) (y ∷ ys) = here (agreeing_left xs ys) (nat_eq x.term y.term)
  where
    here : agreeing xs ys ≤ length xs → (b : Bool) → cond b (suc (agreeing xs ys)) 0 ≤ suc (length xs)
    here l true = omega arith
    here l false = omega arith

pub agreeing_right : (xs ys : List LogEntry) → agreeing xs ys ≤ length ys
agreeing_right [] ys = omega arith
agreeing_right (x ∷ xs) [] = omega arith
agreeing_right (x ∷ xs) (y ∷ ys) = here (agreeing_right xs ys) (nat_eq x.term y.term)
  where
    here : agreeing xs ys ≤ length ys → (b : Bool) → cond b (suc (agreeing xs ys)) 0 ≤ suc (length ys)
    here l true = omega arith
    here l false = omega arith

-- the last of those is of one term
pub agreeing_last : (xs ys : List LogEntry) → last_term (take (agreeing xs ys) xs) ≡ last_term (take (agreeing xs ys) ys)
agreeing_last [] [] = refl
agreeing_last [] (y ∷ ys) = refl
agreeing_last (x ∷ xs) [] = refl
agreeing_last (x ∷ xs) (y ∷ ys) = here (agreeing xs ys) (nat_eq x.term y.term) refl (agreeing_last xs ys) (agreeing_left xs ys) (agreeing_right xs ys)
  where
    more : (m : ℕ) → x.term ≡ y.term → last_term (take m xs) ≡ last_term (take m ys) → m ≤ length xs → m ≤ length ys → last_term (x ∷ take m xs) ≡ last_term (y ∷ take m ys)
    more zero t e l r = t
    more (suc m) t e l r = last_term_cons x (take (suc m) xs) (omega (arith, take_length (suc m) xs l)) ∙ (e ∙ sym (last_term_cons y (take (suc m) ys) (omega (arith, take_length (suc m) ys r))))

    here : (m : ℕ) (b : Bool) → nat_eq x.term y.term ≡ b → last_term (take m xs) ≡ last_term (take m ys) → m ≤ length xs → m ≤ length ys → last_term (take (cond b (suc m) 0) (x ∷ xs)) ≡ last_term (take (cond b (suc m) 0) (y ∷ ys))
    here m true p e l r = more m (grind (arith, nat_tests)) e l r
    here m false p e l r = refl

-- a common beginning is no longer
pub agreeing_most : (zs xs ys : List LogEntry) → IsPrefix zs xs → IsPrefix zs ys → length zs ≤ agreeing xs ys
agreeing_most [] xs ys v w = omega arith
agreeing_most (z ∷ zs) [] ys v w = absurd (cc (v.1))
agreeing_most (z ∷ zs) (x ∷ xs) [] v w = absurd (cc (w.1))
agreeing_most (z ∷ zs) (x ∷ xs) (y ∷ ys) v w = here (agreeing_most zs xs ys (v.0, cc (v.1)) (w.0, cc (w.1))) (nat_eq x.term y.term) refl
  where
    same : x ≡ y
    same = cc (v.1, w.1)

    terms : x.term ≡ y.term
    terms = ap (λ e. e.term) same

    here : length zs ≤ agreeing xs ys → (b : Bool) → nat_eq x.term y.term ≡ b → suc (length zs) ≤ cond b (suc (agreeing xs ys)) 0
    here l true e = omega arith
    here l false e = let t : x.term ≡ y.term = terms in absurd (grind (arith, nat_tests))

pub agree_none : (xs : List LogEntry) → agreeing xs [] ≡ 0
agree_none [] = refl
agree_none (x ∷ xs) = refl
