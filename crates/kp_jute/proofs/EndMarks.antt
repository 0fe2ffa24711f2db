-- Values up to an end mark: the form is lawful where each value takes a byte at least.
use Rattle.std.proofs.Common.{◌≡◌, ℕ, zero, suc, ◌+◌, ◌<◌, ◌≤◌, List, [], ◌∷◌, ◌++◌, length, Option, Some, None, Ok, refl, sym, ap, subst, ◌∙◌, append_assoc, arith, length-append}
use Rattle.std.specs.List.{flat_map, AllByRecursion}
use Rattle.std.proofs.lemmas.List.Concat.{flat_map-cons}
use Rattle.kp_jute.specs.Form.{IsBytes, Takes, front, Lawful, Place, Form}
use Rattle.kp_jute.specs.Jute.{behind, until_at, untils}
use Rattle.kp_jute.proofs.Combined.{bind_ok, ok_is, Takes-then}

until_step : {A : Type 0} (f : Form (Option A)) (n : ℕ) (p : Place) (o : Option A) (r : Place) (v : List A) (q : Place) → ((xs : List A) (s : Place) → until_at f.read n r ≡ Ok (xs, s) → Takes r ((untils f).spell xs) s × (untils f).Fits xs) → Takes p (f.spell o) r → f.Fits o → behind o r (until_at f.read n) ≡ Ok (v, q) → Takes p ((untils f).spell v) q × (untils f).Fits v
until_step {A} f n p None r v q ih t fits e = subst (λ (x : List A × Place). Takes p ((untils f).spell x.0) x.1 × (untils f).Fits x.0) (ok_is ([], r) (v, q) e) (t, (tt, fits))
until_step {A} f n p (Some a) r v q ih t fits e =
    let b = bind_ok (until_at f.read n r) (λ others. Ok (a ∷ others.0, others.1)) (v, q) e in
    let s = ih b.0.0 b.0.1 b.1 in
    let xs = b.0.0 in
    let regrouped : f.spell (Some a) ++ (flat_map (λ x. f.spell (Some x)) xs ++ f.spell None) ≡ flat_map (λ x. f.spell (Some x)) (a ∷ xs) ++ f.spell None = sym (append_assoc (f.spell (Some a)) (flat_map (λ x. f.spell (Some x)) xs) (f.spell None)) ∙ ap (λ (u : List ℕ). u ++ f.spell None) (sym (flat_map-cons (λ x. f.spell (Some x)) a xs)) in
    let both = Takes-then p (f.spell (Some a)) r ((untils f).spell xs) b.0.1 t s.0 in
    subst (λ (x : List A × Place). Takes p ((untils f).spell x.0) x.1 × (untils f).Fits x.0) (ok_is (a ∷ xs, b.0.1) (v, q) b.2) (subst (λ (u : List ℕ). Takes p u b.0.1) regrouped both, ((fits, s.1.0), s.1.1))

until_takes : {A : Type 0} (f : Form (Option A)) → Lawful f → (n : ℕ) (p : Place) (v : List A) (q : Place) → IsBytes p.rest → until_at f.read n p ≡ Ok (v, q) → Takes p ((untils f).spell v) q × (untils f).Fits v
unfolding until_at
until_takes f lf zero p v q fits e = absurd cc
until_takes f lf (suc n) p v q fits e =
    let a = bind_ok (f.read p) (λ x. behind x.0 x.1 (until_at f.read n)) (v, q) e in
    let s = lf.takes p a.0.0 a.0.1 fits a.1 in
    until_step f n p a.0.0 a.0.1 v q (λ xs t is. until_takes f lf n a.0.1 xs t s.0.rest_fits is) s.0 s.1 a.2

until_again : {A : Type 0} (f : Form (Option A)) → Lawful f → (n : ℕ) (v : List A) (at : ℕ) (rest : List ℕ) → length v < n → (untils f).Fits v → until_at f.read n (front at ((untils f).spell v ++ rest)) ≡ Ok (v, front (at + length ((untils f).spell v)) rest)
unfolding until_at
until_again f lf zero v at rest lt fits = absurd (omega (arith, lt))
until_again f lf (suc n) [] at rest lt fits = rw (lf.again None at rest fits.1) refl
until_again {A} f lf (suc n) (x ∷ xs) at rest lt fits =
    let one = f.spell (Some x) in
    let more = flat_map (λ x. f.spell (Some x)) xs in
    let whole : (untils f).spell (x ∷ xs) ≡ one ++ (more ++ f.spell None) = ap (λ (u : List ℕ). u ++ f.spell None) (flat_map-cons (λ x. f.spell (Some x)) x xs) ∙ append_assoc one more (f.spell None) in
    let regrouped : (untils f).spell (x ∷ xs) ++ rest ≡ one ++ ((more ++ f.spell None) ++ rest) = ap (λ (u : List ℕ). u ++ rest) whole ∙ append_assoc one (more ++ f.spell None) rest in
    let len : at + length one + length (more ++ f.spell None) ≡ at + length ((untils f).spell (x ∷ xs)) = rw whole (omega (arith, length-append one (more ++ f.spell None))) in
    ap (λ (r : List ℕ). until_at f.read (suc n) (front at r)) regrouped ∙ rw (lf.again (Some x) at ((more ++ f.spell None) ++ rest) fits.0.0, until_again f lf n xs (at + length one) rest (omega (arith, lt)) (fits.0.1, fits.1)) (ap (λ (k : ℕ). Ok (x ∷ xs, front k rest)) len)

-- each value that has a spelling takes a byte at least
not_shorter : {A : Type 0} (f : Form (Option A)) → ((a : A) → f.Fits (Some a) → 0 < length (f.spell (Some a))) → (xs : List A) → AllByRecursion (λ x. f.Fits (Some x)) xs → length xs ≤ length (flat_map (λ x. f.spell (Some x)) xs)
not_shorter f long [] fits = omega arith
not_shorter f long (x ∷ xs) fits = rw flat_map-cons (omega (arith, long x fits.0, not_shorter f long xs fits.1, length-append (f.spell (Some x)) (flat_map (λ x. f.spell (Some x)) xs)))

-- the same where some values have no spelling, and those that have one take a byte at least
pub spelled_untils_lawful : {A : Type 0} (f : Form (Option A)) → ((a : A) → f.Fits (Some a) → 0 < length (f.spell (Some a))) → Lawful f → Lawful (untils f)
spelled_untils_lawful f long lf = record {
  takes = λ p v q fits e. until_takes f lf (suc (length p.rest)) p v q fits e;
  again = λ v at rest fits.
      let body = flat_map (λ x. f.spell (Some x)) v in
      until_again f lf (suc (length ((untils f).spell v ++ rest))) v at rest (omega (arith, not_shorter f long v fits.0, length-append body (f.spell None), length-append (body ++ f.spell None) rest)) fits;
}

pub untils_lawful : {A : Type 0} (f : Form (Option A)) → ((a : A) → 0 < length (f.spell (Some a))) → Lawful f → Lawful (untils f)
untils_lawful f long lf = spelled_untils_lawful f (λ a _. long a) lf
