-- Forms of types of which some values have a spelling only, and what names a number: each is lawful.
use Rattle.std.proofs.Common.{◌≡◌, ℕ, ◌+◌, ℤ, Bool, true, false, cond, List, [], ◌++◌, length, Option, Some, None, Result, Ok, refl, sym, ap, subst, ◌∙◌, arith}
use Rattle.std.specs.Ordering.{int_eq}
use Rattle.std.proofs.lemmas.Bool.Decides.{Decides-int_eq}
use Rattle.kp_jute.specs.declared.fault.JuteFail.{JuteFail}
use Rattle.kp_jute.specs.Form.{Takes, front, Lawful, Place, ◌>>=◌, Form, spelled_if}
use Rattle.kp_jute.proofs.Combined.{bind_ok, ok_is}
use Rattle.kp_wire.specs.Partly.{fits_if, partly, nothing}

abbrev seen_as : {A B : Type 0} → (A → B) → A × Place → Result (B × Place) JuteFail
seen_as to x = Ok (to x.0, x.1)

-- what is spelled, if anything, is read as the value
read_again : {A B : Type 0} (to : A → B) (f : Form A) → Lawful f → (v : B) (at : ℕ) (rest : List ℕ) (o : Option A) → fits_if f o → ((a : A) → o ≡ Some a → to a ≡ v) → (f.read (front at (spelled_if f o ++ rest)) >>= seen_as to) ≡ Ok (v, front (at + length (spelled_if f o)) rest)
read_again to f lf v at rest None fits is = absurd fits
read_again to f lf v at rest (Some a) fits is = rw (lf.again a at rest fits, is a refl) refl

pub partly_lawful : {A B : Type 0} (to : A → B) (from : B → Option A) (f : Form A) → ((a : A) → from (to a) ≡ Some a) → ((b : B) (a : A) → from b ≡ Some a → to a ≡ b) → Lawful f → Lawful (partly to from f)
partly_lawful {A} {B} to from f there back lf = record {
  takes = λ p v q fits e.
      let a = bind_ok (f.read p) (λ x. Ok (to x.0, x.1)) (v, q) e in
      let s = lf.takes p a.0.0 a.0.1 fits a.1 in
      let spelled : Takes p (spelled_if f (from (to a.0.0))) a.0.1 × fits_if f (from (to a.0.0)) = subst (λ (o : Option A). Takes p (spelled_if f o) a.0.1 × fits_if f o) (sym (there a.0.0)) s in
      subst (λ (x : B × Place). Takes p (spelled_if f (from x.0)) x.1 × fits_if f (from x.0)) (ok_is (to a.0.0, a.0.1) (v, q) a.2) spelled;
  again = λ v at rest fits. read_again to f lf v at rest (from v) fits (λ a e. back v a e);
}

pub nothing_lawful : Lawful nothing
nothing_lawful = record {
  takes = λ p v q fits e. subst (λ (x : Unit {0} × Place). Takes p [] x.1 × Unit {0}) (ok_is (tt, p) (v, q) e) (record { parts = refl; moved = omega arith; rest_fits = fits }, tt);
  again = λ v at rest fits. ap (λ (n : ℕ). Ok (tt, front n rest)) (omega arith);
}

pub some_is : {A : Type 0} (x y : A) → Some x ≡ Some y → x ≡ y
some_is x y e = cc

pub same_int : (x y : ℤ) → int_eq x y ≡ true → x ≡ y
same_int x y e = (Decides-int_eq x y).0 e

-- a test that gives a name to its own number, and else goes on
pub next_name : {A : Type 0} (number : A → ℤ) (z k : ℤ) (x y : A) (more : Option A) → number x ≡ k → cond (int_eq z k) (Some x) more ≡ Some y → (more ≡ Some y → number y ≡ z) → number y ≡ z
next_name number z k x y more own e rest = by_test (int_eq z k) (same_int z k) e where
  by_test : (b : Bool) → (b ≡ true → z ≡ k) → cond b (Some x) more ≡ Some y → number y ≡ z
  by_test true is e = ap number (sym (some_is x y e)) ∙ own ∙ sym (is refl)
  by_test false is e = rest e
