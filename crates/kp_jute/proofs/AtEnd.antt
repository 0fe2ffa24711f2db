-- Forms that reach to the end of the bytes, and what is read of all bytes.
use Rattle.std.proofs.Common.{◌≡◌, ℕ, ◌+◌, ◌<◌, Bool, true, false, cond, eqb, List, [], ◌++◌, length, Option, Some, None, Result, Ok, Err, refl, sym, ap, subst, ◌∙◌, arith, length-append}
use Rattle.std.specs.Prelude.{IfOk}
use Rattle.std.proofs.lemmas.Bool.{eqb-true, ne_eqb}
use Rattle.std.proofs.lemmas.List.{append-nil, nil_from_length}
use Rattle.kp_jute.specs.declared.fault.JuteFail.{JuteFail}
use Rattle.kp_jute.specs.declared.fault.JuteFail.TheVariants.{BadByte}
use Rattle.kp_jute.specs.Form.{IsBytes, Takes, front, Lawful, LawfulAtEnd, Place, ◌>>=◌, Form, ◌⊗◌, seen, tagged, if_any, remains, ended, whole, Answers}
use Rattle.kp_jute.specs.Jute.{booleans}
use Rattle.kp_jute.proofs.Combined.{bind_ok, guard_in, ok_is, Takes-then}
use Rattle.kp_jute.proofs.Cases.{tagged_takes}

-- a form that is lawful with anything behind it is so with nothing
pub at_end : {A : Type 0} (f : Form A) → Lawful f → LawfulAtEnd f
at_end f lf = record {
  takes = lf.takes;
  again = λ v at fits. ap (λ (r : List ℕ). f.read (front at r)) (sym (append-nil (f.spell v))) ∙ lf.again v at [] fits;
}

pub both_at_end : {A B : Type 0} (f : Form A) (g : Form B) → Lawful f → LawfulAtEnd g → LawfulAtEnd (f ⊗ g)
both_at_end {A} {B} f g lf lg = record {
  takes = λ p v q fits e.
      let a = bind_ok (f.read p) (λ x. g.read x.1 >>= λ y. Ok ((x.0, y.0), y.1)) (v, q) e in
      let b = bind_ok (g.read a.0.1) (λ y. Ok ((a.0.0, y.0), y.1)) (v, q) a.2 in
      let s = lf.takes p a.0.0 a.0.1 fits a.1 in
      let t = lg.takes a.0.1 b.0.0 b.0.1 s.0.rest_fits b.1 in
      subst (λ (x : (A × B) × Place). Takes p (f.spell x.0.0 ++ g.spell x.0.1) x.1 × (f.Fits x.0.0 × g.Fits x.0.1)) (ok_is ((a.0.0, b.0.0), b.0.1) (v, q) b.2) (Takes-then p (f.spell a.0.0) a.0.1 (g.spell b.0.0) b.0.1 s.0 t.0, (s.1, t.1));
  again = λ v at fits.
      let len : at + length (f.spell v.0) + length (g.spell v.1) ≡ at + length (f.spell v.0 ++ g.spell v.1) = omega (arith, length-append (f.spell v.0) (g.spell v.1)) in
      rw (lf.again v.0 at (g.spell v.1) fits.0, lg.again v.1 (at + length (f.spell v.0)) fits.1) (ap (λ (n : ℕ). Ok (v, front n [])) len);
}

pub seen_at_end : {A B : Type 0} (to : A → B) (from : B → A) (f : Form A) → ((a : A) → from (to a) ≡ a) → ((b : B) → to (from b) ≡ b) → LawfulAtEnd f → LawfulAtEnd (seen to from f)
seen_at_end {A} {B} to from f there back lf = record {
  takes = λ p v q fits e.
      let a = bind_ok (f.read p) (λ x. Ok (to x.0, x.1)) (v, q) e in
      let s = lf.takes p a.0.0 a.0.1 fits a.1 in
      subst (λ (x : B × Place). Takes p (f.spell (from x.0)) x.1 × f.Fits (from x.0)) (ok_is (to a.0.0, a.0.1) (v, q) a.2) (subst (λ (x : A). Takes p (f.spell x) a.0.1 × f.Fits x) (sym (there a.0.0)) s);
  again = λ v at fits. rw (lf.again (from v) at fits, back v) refl;
}

pub tagged_at_end : {A : Type 0} {B : A → Type 0} (f : Form A) (g : (a : A) → Form (B a)) → Lawful f → ((a : A) → LawfulAtEnd (g a)) → LawfulAtEnd (tagged f g)
tagged_at_end {A} {B} f g lf lg = record {
  takes = tagged_takes f g lf.takes (λ a. (lg a).takes);
  again = λ v at fits.
      let len : at + length (f.spell v.0) + length ((g v.0).spell v.1) ≡ at + length (f.spell v.0 ++ (g v.0).spell v.1) = omega (arith, length-append (f.spell v.0) ((g v.0).spell v.1)) in
      rw (lf.again v.0 at ((g v.0).spell v.1) fits.0, (lg v.0).again v.1 (at + length (f.spell v.0)) fits.1) (ap (λ (n : ℕ). Ok (v, front n [])) len);
}

pub remains_at_end : LawfulAtEnd remains
remains_at_end = record {
  takes = λ p v q fits e. subst (λ (x : List ℕ × Place). Takes p x.0 x.1 × Unit {0}) (ok_is (p.rest, front (p.at + length p.rest) []) (v, q) e) (record { parts = sym (append-nil p.rest); moved = refl; rest_fits = λ i. omega arith }, tt);
  again = λ v at fits. refl;
}

-- ---- a value, or nothing where no bytes are left

if_any_takes : {A : Type 0} (f : Form A) → LawfulAtEnd f → (p : Place) (b : Bool) → eqb (length p.rest) 0 ≡ b → (v : Option A) (q : Place) → IsBytes p.rest → cond {A = Result (Option A × Place) JuteFail} b (Ok (None, p)) (f.read p >>= λ x. Ok (Some x.0, x.1)) ≡ Ok (v, q) → Takes p ((if_any f).spell v) q × (if_any f).Fits v
if_any_takes {A} f lf p true empty v q fits e = subst (λ (x : Option A × Place). Takes p ((if_any f).spell x.0) x.1 × (if_any f).Fits x.0) (ok_is (None, p) (v, q) e) (record { parts = refl; moved = omega arith; rest_fits = fits }, tt)
if_any_takes {A} f lf p false empty v q fits e =
    let a = bind_ok (f.read p) (λ x. Ok (Some x.0, x.1)) (v, q) e in
    subst (λ (x : Option A × Place). Takes p ((if_any f).spell x.0) x.1 × (if_any f).Fits x.0) (ok_is (Some a.0.0, a.0.1) (v, q) a.2) (lf.takes p a.0.0 a.0.1 fits a.1)

not_empty : (n : ℕ) → 0 < n → eqb n 0 ≡ false
not_empty n lt = ne_eqb n 0 (λ e. omega (arith, lt, e))

if_any_again : {A : Type 0} (f : Form A) → ((a : A) → 0 < length (f.spell a)) → LawfulAtEnd f → (v : Option A) (at : ℕ) → (if_any f).Fits v → (if_any f).read (front at ((if_any f).spell v)) ≡ Ok (v, front (at + length ((if_any f).spell v)) [])
if_any_again f long lf None at fits = ap (λ (n : ℕ). Ok (None, front n [])) (omega arith)
if_any_again f long lf (Some a) at fits = rw (not_empty (length (f.spell a)) (long a), lf.again a at fits) refl

pub if_any_at_end : {A : Type 0} (f : Form A) → ((a : A) → 0 < length (f.spell a)) → LawfulAtEnd f → LawfulAtEnd (if_any f)
if_any_at_end f long lf = record {
  takes = λ p v q fits e. if_any_takes f lf p (eqb (length p.rest) 0) refl v q fits e;
  again = if_any_again f long lf;
}

pub booleans_long : (b : Bool) → 0 < length (booleans.spell b)
booleans_long true = omega arith
booleans_long false = omega arith

-- ---- all bytes

nothing_left : (rest : List ℕ) → eqb (length rest) 0 ≡ true → rest ≡ []
nothing_left rest e = nil_from_length rest (eqb-true (length rest) 0 e)

-- a value whose reading ended with the bytes is spelled by all of them
pub ended_ok : {A : Type 0} (f : Form A) → LawfulAtEnd f → (p : Place) (v : A) → IsBytes p.rest → ended (f.read p) ≡ Ok v → (p.rest ≡ f.spell v) × f.Fits v
ended_ok {A} f lf p v fits e =
    let a = bind_ok (f.read p) (λ x. cond (eqb (length x.1.rest) 0) (Ok x.0) (Err (BadByte x.1.at))) v e in
    let g = guard_in (eqb (length a.0.1.rest) 0) (BadByte a.0.1.at) a.0.0 v a.2 in
    let s = lf.takes p a.0.0 a.0.1 fits a.1 in
    let all : p.rest ≡ f.spell a.0.0 = s.0.parts ∙ ap (λ (r : List ℕ). f.spell a.0.0 ++ r) (nothing_left a.0.1.rest g.0) ∙ append-nil (f.spell a.0.0) in
    subst (λ (x : A). (p.rest ≡ f.spell x) × f.Fits x) g.1 (all, s.1)

pub ended_again : {A : Type 0} (f : Form A) → LawfulAtEnd f → (v : A) (at : ℕ) → f.Fits v → ended (f.read (front at (f.spell v))) ≡ Ok v
ended_again f lf v at fits = rw (lf.again v at fits) refl

-- what is read of all bytes is spelled so by all of them
pub is_found : {A X : Type 0} (f : Form A) → LawfulAtEnd f → (view : X → A) (bytes : List ℕ) (r : Result X JuteFail) → IsBytes bytes → Answers view r (whole f bytes) → IfOk r (λ x. f.Fits (view x) × (bytes ≡ f.spell (view x)))
is_found f lf view bytes (Ok x) fits e =
    let s = ended_ok f lf (front 0 bytes) (view x) fits e in
    (s.1, s.0)
is_found f lf view bytes (Err d) fits e = tt

found_by : {A : Type 0} (f : Form A) → LawfulAtEnd f → (bytes : List ℕ) → IsBytes bytes → (r : Result A JuteFail) → whole f bytes ≡ r → IfOk r (λ v. f.Fits v × (bytes ≡ f.spell v))
found_by f lf bytes fits (Ok v) e = let s = ended_ok f lf (front 0 bytes) v fits e in (s.1, s.0)
found_by f lf bytes fits (Err d) e = tt

pub is_found_in : {A : Type 0} (f : Form A) → LawfulAtEnd f → (bytes : List ℕ) → IsBytes bytes → IfOk (whole f bytes) (λ v. f.Fits v × (bytes ≡ f.spell v))
is_found_in {A} f lf bytes fits = found_by f lf bytes fits (whole f bytes) refl

-- and what is spelled is read so
pub whole_again : {A : Type 0} (f : Form A) → LawfulAtEnd f → (v : A) → f.Fits v → whole f (f.spell v) ≡ Ok v
whole_again f lf v fits = ended_again f lf v 0 fits
