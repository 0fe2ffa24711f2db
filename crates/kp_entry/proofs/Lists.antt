-- Items one after another: what is read of them is their spellings, and is read again.
use Rattle.std.proofs.Common.{◌≡◌, ℕ, zero, suc, ◌+◌, List, [], ◌∷◌, ◌++◌, length, Ok, refl, ap, subst, ◌∙◌, append_assoc, arith, length-append}
use Rattle.std.specs.List.{flat_map, AllByRecursion}
use Rattle.std.proofs.lemmas.List.Concat.{flat_map-cons}
use Rattle.kp_jute.specs.Form.{IsBytes, Takes, front, Lawful, Place, ◌>>=◌, Form}
use Rattle.kp_jute.specs.Jute.{items_at}
use Rattle.kp_jute.proofs.Combined.{bind_ok, ok_is, Takes-then}

pub items_take : {A : Type 0} (f : Form A) → Lawful f → (n : ℕ) (p : Place) (v : List A) (q : Place) → IsBytes p.rest → items_at f.read n p ≡ Ok (v, q) → Takes p (flat_map f.spell v) q × (length v ≡ n) × AllByRecursion f.Fits v
unfolding items_at
items_take {A} f lf zero p v q fits e = subst (λ (x : List A × Place). Takes p (flat_map f.spell x.0) x.1 × (length x.0 ≡ 0) × AllByRecursion f.Fits x.0) (ok_is ([], p) (v, q) e) (record { parts = refl; moved = omega arith; rest_fits = fits }, refl, tt)
items_take {A} f lf (suc n) p v q fits e =
    let a = bind_ok (f.read p) (λ first. items_at f.read n first.1 >>= λ others. Ok (first.0 ∷ others.0, others.1)) (v, q) e in
    let b = bind_ok (items_at f.read n a.0.1) (λ others. Ok (a.0.0 ∷ others.0, others.1)) (v, q) a.2 in
    let s = lf.takes p a.0.0 a.0.1 fits a.1 in
    let t = items_take f lf n a.0.1 b.0.0 b.0.1 s.0.rest_fits b.1 in
    let both = Takes-then p (f.spell a.0.0) a.0.1 (flat_map f.spell b.0.0) b.0.1 s.0 t.0 in
    subst (λ (x : List A × Place). Takes p (flat_map f.spell x.0) x.1 × (length x.0 ≡ suc n) × AllByRecursion f.Fits x.0) (ok_is (a.0.0 ∷ b.0.0, b.0.1) (v, q) b.2) (rw flat_map-cons both, ap suc t.1, (s.1, t.2))

pub items_again : {A : Type 0} (f : Form A) → Lawful f → (v : List A) (at : ℕ) (rest : List ℕ) → AllByRecursion f.Fits v → items_at f.read (length v) (front at (flat_map f.spell v ++ rest)) ≡ Ok (v, front (at + length (flat_map f.spell v)) rest)
unfolding items_at
items_again f lf [] at rest fits = ap (λ (n : ℕ). Ok ([], front n rest)) (omega arith)
items_again {A} f lf (x ∷ xs) at rest fits =
    let regrouped : flat_map f.spell (x ∷ xs) ++ rest ≡ f.spell x ++ (flat_map f.spell xs ++ rest) = ap (λ (u : List ℕ). u ++ rest) (flat_map-cons f.spell x xs) ∙ append_assoc (f.spell x) (flat_map f.spell xs) rest in
    let len : at + length (f.spell x) + length (flat_map f.spell xs) ≡ at + length (flat_map f.spell (x ∷ xs)) = rw flat_map-cons (omega (arith, length-append (f.spell x) (flat_map f.spell xs))) in
    ap (λ (r : List ℕ). items_at f.read (suc (length xs)) (front at r)) regrouped ∙ rw (lf.again x at (flat_map f.spell xs ++ rest) fits.0, items_again f lf xs (at + length (f.spell x)) rest fits.1) (ap (λ (n : ℕ). Ok (x ∷ xs, front n rest)) len)
