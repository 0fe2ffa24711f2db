-- Forms with cases, and forms that take some values only: each is lawful where its parts are.
use Rattle.std.proofs.Common.{◌≡◌, ℕ, ◌+◌, List, ◌++◌, length, Option, Some, None, Bool, true, false, ℤ, Ok, refl, sym, ap, subst, ◌∙◌, append_assoc, arith, length-append}
use Rattle.std.specs.Ordering.{int_eq}
use Rattle.std.proofs.lemmas.Bool.Decides.{Decides-int_eq}
use Rattle.kp_jute.specs.Form.{IsBytes, Takes, front, Lawful, Place, ◌>>=◌, Form, tagged, narrowed, meant_at, present}
use Rattle.kp_jute.specs.Jute.{ints, booleans, only_if, fixed_ints, same_boolean, fixed_booleans}
use Rattle.kp_jute.proofs.Combined.{bind_ok, ok_is, Takes-then}
use Rattle.kp_jute.proofs.Numbers.{ints_lawful, booleans_lawful}

-- what is read has a spelling, which stood there
abbrev pub Finds : {A : Type 0} → Form A → Type 0
Finds {A} f = (p : Place) (v : A) (q : Place) → IsBytes p.rest → f.read p ≡ Ok (v, q) → Takes p (f.spell v) q × f.Fits v

pub tagged_takes : {A : Type 0} {B : A → Type 0} (f : Form A) (g : (a : A) → Form (B a)) → Finds f → ((a : A) → Finds (g a)) → Finds (tagged f g)
tagged_takes {A} {B} f g tf tg p v q fits e =
    let a = bind_ok (f.read p) (λ x. (g x.0).read x.1 >>= λ y. Ok ((x.0, y.0), y.1)) (v, q) e in
    let b = bind_ok ((g a.0.0).read a.0.1) (λ y. Ok ((a.0.0, y.0), y.1)) (v, q) a.2 in
    let s = tf p a.0.0 a.0.1 fits a.1 in
    let t = tg a.0.0 a.0.1 b.0.0 b.0.1 s.0.rest_fits b.1 in
    subst (λ (x : ((k : A) × B k) × Place). Takes p (f.spell x.0.0 ++ (g x.0.0).spell x.0.1) x.1 × (f.Fits x.0.0 × (g x.0.0).Fits x.0.1)) (ok_is ((a.0.0, b.0.0), b.0.1) (v, q) b.2) (Takes-then p (f.spell a.0.0) a.0.1 ((g a.0.0).spell b.0.0) b.0.1 s.0 t.0, (s.1, t.1))

pub tagged_lawful : {A : Type 0} {B : A → Type 0} (f : Form A) (g : (a : A) → Form (B a)) → Lawful f → ((a : A) → Lawful (g a)) → Lawful (tagged f g)
tagged_lawful {A} {B} f g lf lg = record {
  takes = tagged_takes f g lf.takes (λ a. (lg a).takes);
  again = λ v at rest fits.
      let one = f.spell v.0 in
      let two = (g v.0).spell v.1 in
      let len : at + length one + length two ≡ at + length (one ++ two) = omega (arith, length-append one two) in
      ap (λ (r : List ℕ). (tagged f g).read (front at r)) (append_assoc one two rest) ∙ rw (lf.again v.0 at (two ++ rest) fits.0, (lg v.0).again v.1 (at + length one) rest fits.1) (ap (λ (n : ℕ). Ok (v, front n rest)) len);
}

-- ---- some values only

pub meant_ok : {B : Type 0} (at : ℕ) (r : Place) (o : Option B) (v : B) (q : Place) → meant_at at r o ≡ Ok (v, q) → (o ≡ Some v) × (r ≡ q)
meant_ok at r None v q e = absurd cc
meant_ok {B} at r (Some b) v q e = let s = ok_is (b, r) (v, q) e in (ap (λ (x : B × Place). Some x.0) s, ap (λ (x : B × Place). x.1) s)

pub narrowed_lawful : {A B : Type 0} (to : A → Option B) (from : B → A) (f : Form A) → ((a : A) (b : B) → to a ≡ Some b → from b ≡ a) → Lawful f → Lawful (narrowed to from f)
narrowed_lawful {A} {B} to from f back lf = record {
  takes = λ p v q fits e.
      let a = bind_ok (f.read p) (λ x. meant_at p.at x.1 (to x.0)) (v, q) e in
      let m = meant_ok p.at a.0.1 (to a.0.0) v q a.2 in
      let s = lf.takes p a.0.0 a.0.1 fits a.1 in
      let same = back a.0.0 v m.0 in
      let all : Takes p (f.spell a.0.0) q × f.Fits a.0.0 = subst (λ (r : Place). Takes p (f.spell a.0.0) r × f.Fits a.0.0) m.1 s in
      let moved : Takes p (f.spell (from v)) q × f.Fits (from v) = subst (λ (x : A). Takes p (f.spell x) q × f.Fits x) (sym same) all in
      (moved.0, (moved.1, ap to same ∙ m.0));
  again = λ v at rest fits. rw (lf.again (from v) at rest fits.0, fits.1) refl;
}

pub present_lawful : {A : Type 0} (f : Form (Option A)) → Lawful f → Lawful (present f)
present_lawful {A} f lf = narrowed_lawful (λ (o : Option A). o) (λ (a : A). Some a) f (λ a b e. sym e) lf

-- ---- one value only

only_true : (b : Bool) (u : Unit {0}) → only_if b ≡ Some u → b ≡ true
only_true true u e = refl
only_true false u e = absurd cc

pub fixed_ints_lawful : (z : ℤ) → Lawful (fixed_ints z)
fixed_ints_lawful z = narrowed_lawful (λ x. only_if (int_eq x z)) (λ _. z) ints (λ a u e. sym ((Decides-int_eq a z).0 (only_true (int_eq a z) u e))) ints_lawful

boolean_same : (x b : Bool) → same_boolean x b ≡ true → b ≡ x
boolean_same true true e = refl
boolean_same true false e = absurd cc
boolean_same false true e = absurd cc
boolean_same false false e = refl

pub fixed_booleans_lawful : (b : Bool) → Lawful (fixed_booleans b)
fixed_booleans_lawful b = narrowed_lawful (λ x. only_if (same_boolean x b)) (λ _. b) booleans (λ a u e. boolean_same a b (only_true (same_boolean a b) u e)) booleans_lawful
