-- The fields: each form is lawful.
use Rattle.std.proofs.Common.{◌≡◌, ℕ, ◌+◌, ◌^◌, ◌<◌, Bool, true, false, cond, eqb, List, [], ◌∷◌, ◌++◌, length, Option, Some, Ok, Err, refl, sym, ap, subst, ◌∙◌, append_assoc, arith, length-append}
use Rattle.std.specs.Int.{w8, w32, from_be_bytes, to_be_bytes}
use Rattle.std.specs.List.{flat_map}
use Rattle.std.specs.Str.{is_utf8}
use Rattle.std.proofs.lemmas.Bool.{eqb-true}
use Rattle.std.proofs.lemmas.Int.{of_z-to_z}
use Rattle.std.proofs.Math.Facts.{sfits_to_z, Fits-of_z, Fits-of_lt, Fits-lt-pow}
use Rattle.kp_jute.specs.declared.fault.JuteFail.TheVariants.{BadByte}
use Rattle.kp_jute.specs.Form.{IsBytes, Takes, front, Lawful, Place, Form, ◌⊗◌}
use Rattle.kp_jute.specs.Jute.{unsigned, unsigned_at, raw_at, items_at}
use Rattle.kp_jute.proofs.Combined.{bind_ok, guard_in, ok_is, Takes-then, seen_lawful, ◌&◌}
use Rattle.kp_jute.proofs.Cases.{narrowed_lawful}
use Rattle.kp_jute.proofs.Numbers.{IsWide, unsigneds_lawful, unsigned_ints_lawful, unsigned_longs_lawful, raws_lawful, raw_takes, raw_again}
use Rattle.kp_entry.proofs.Lists.{items_take, items_again}
use Rattle.kp_model.specs.Grammar.{is_number, is_timeout}
use Rattle.kp_entry.specs.Fields.{u8s, u32s, u64s, limited, numbers, timeouts, blob_at, blobs, strings, passwords, list_at, list, lists, kind_in, kinds, units, origins, acls}

-- ---- numbers

one_byte : (bytes : List ℕ) → length bytes ≡ 1 → IsBytes bytes → to_be_bytes w8 (from_be_bytes w8 bytes) ≡ bytes
one_byte [] len fits = absurd (omega (arith, len))
one_byte (b ∷ []) len fits = ap (λ (n : ℕ). n ∷ []) (omega (arith, fits 0))
one_byte (b ∷ c ∷ bs) len fits = absurd (omega (arith, len))

wide8 : IsWide w8 (2 ^ 8)
wide8 = record {
  len = λ n. refl;
  back = one_byte;
  again = λ n lt. omega (arith, lt);
  below = λ bytes fits. omega (arith, fits 0);
  unsigned = λ n lt. of_z-to_z w8 n lt;
  fits = λ n lt. sfits_to_z (Fits-of_lt lt);
  unsigned_below = λ z fits. Fits-lt-pow (Fits-of_z fits);
}

pub u8s_lawful : Lawful u8s
u8s_lawful = unsigneds_lawful w8 (2 ^ 8) wide8

pub u32s_lawful : Lawful u32s
u32s_lawful = unsigned_ints_lawful

-- ---- ranges

pub limited_lawful : {A : Type 0} (test : A → Bool) (f : Form A) → Lawful f → Lawful (limited test f)
limited_lawful {A} test f lf = record {
  takes = λ p v q fits e.
      let a = bind_ok (f.read p) (λ x. cond (test x.0) (Ok x) (Err (BadByte p.at))) (v, q) e in
      let g = guard_in (test a.0.0) (BadByte p.at) a.0 (v, q) a.2 in
      let s = lf.takes p a.0.0 a.0.1 fits a.1 in
      subst (λ (x : A × Place). Takes p (f.spell x.0) x.1 × (f.Fits x.0 × (test x.0 ≡ true))) g.1 (s.0, (s.1, g.0));
  again = λ v at rest fits. rw (lf.again v at rest fits.0, fits.1) refl;
}

pub numbers_lawful : Lawful numbers
numbers_lawful = limited_lawful is_number u64s unsigned_longs_lawful

pub timeouts_lawful : Lawful timeouts
timeouts_lawful = limited_lawful is_timeout u32s u32s_lawful

-- ---- bytes and texts

blob_takes : (p : Place) (v : List ℕ) (q : Place) → IsBytes p.rest → blob_at p ≡ Ok (v, q) → Takes p (blobs.spell v) q × (length v < 2 ^ 32)
unfolding blob_at
blob_takes p v q fits e =
    let a = bind_ok (unsigned_at w32 p) (λ n. raw_at p.at n.0 n.1) (v, q) e in
    let s = u32s_lawful.takes p a.0.0 a.0.1 fits a.1 in
    let t = raw_takes p.at a.0.0 a.0.1 v q s.0.rest_fits a.2 in
    let both = Takes-then p (unsigned w32 a.0.0) a.0.1 v q s.0 t.0 in
    (subst (λ (k : ℕ). Takes p (unsigned w32 k ++ v) q) (sym t.1) both, omega (arith, t.1, s.1))

blob_again : (v : List ℕ) (at : ℕ) (rest : List ℕ) → length v < 2 ^ 32 → blob_at (front at (blobs.spell v ++ rest)) ≡ Ok (v, front (at + length (blobs.spell v)) rest)
unfolding blob_at
blob_again v at rest fits =
    let head = unsigned w32 (length v) in
    let len : at + length head + length v ≡ at + length (head ++ v) = omega (arith, length-append head v) in
    ap (λ (r : List ℕ). blob_at (front at r)) (append_assoc head v rest) ∙ rw (u32s_lawful.again (length v) at (v ++ rest) fits, raw_again at (at + length head) (length v) v rest refl) (ap (λ (n : ℕ). Ok (v, front n rest)) len)

pub blobs_lawful : Lawful blobs
blobs_lawful = record { takes = blob_takes; again = blob_again }

pub strings_lawful : Lawful strings
strings_lawful = limited_lawful is_utf8 blobs blobs_lawful

pub passwords_lawful : Lawful passwords
passwords_lawful = raws_lawful 16

-- ---- lists

list_again : {A : Type 0} (f : Form A) → Lawful f → (v : List A) (at : ℕ) (rest : List ℕ) → (lists f).Fits v → list_at f.read (front at (list f.spell v ++ rest)) ≡ Ok (v, front (at + length (list f.spell v)) rest)
unfolding list_at
list_again f lf v at rest fits =
    let head = unsigned w32 (length v) in
    let body = flat_map f.spell v in
    let len : at + length head + length body ≡ at + length (head ++ body) = omega (arith, length-append head body) in
    ap (λ (r : List ℕ). list_at f.read (front at r)) (append_assoc head body rest) ∙ rw (u32s_lawful.again (length v) at (body ++ rest) fits.0, items_again f lf v (at + length head) rest fits.1) (ap (λ (n : ℕ). Ok (v, front n rest)) len)

pub lists_lawful : {A : Type 0} (f : Form A) → Lawful f → Lawful (lists f)
unfolding list_at
lists_lawful f lf = record {
  takes = λ p v q fits e.
      let a = bind_ok (unsigned_at w32 p) (λ n. items_at f.read n.0 n.1) (v, q) e in
      let s = u32s_lawful.takes p a.0.0 a.0.1 fits a.1 in
      let t = items_take f lf a.0.0 a.0.1 v q s.0.rest_fits a.2 in
      let both = Takes-then p (unsigned w32 a.0.0) a.0.1 (flat_map f.spell v) q s.0 t.0 in
      (subst (λ (k : ℕ). Takes p (unsigned w32 k ++ flat_map f.spell v) q) (sym t.1) both, (omega (arith, t.1, s.1), t.2));
  again = list_again f lf;
}

-- ---- kinds

kind_step : {K : Type 0} (number : K → ℕ) (n : ℕ) (b : Bool) (k : K) (o : Option K) (v : K) → eqb n (number k) ≡ b → (o ≡ Some v → number v ≡ n) → cond b (Some k) o ≡ Some v → number v ≡ n
kind_step number n true k o v is more e = let same : k ≡ v = cc in ap number (sym same) ∙ sym (eqb-true n (number k) is)
kind_step number n false k o v is more e = more e

-- a kind that is found has the number
kind_is : {K : Type 0} (all : List K) (number : K → ℕ) (n : ℕ) (v : K) → kind_in all number n ≡ Some v → number v ≡ n
kind_is [] number n v e = absurd cc
kind_is (k ∷ ks) number n v e = kind_step number n (eqb n (number k)) k (kind_in ks number n) v refl (kind_is ks number n v) e

pub kinds_lawful : {K : Type 0} (all : List K) (number : K → ℕ) → Lawful (kinds all number)
kinds_lawful all number = narrowed_lawful (kind_in all number) number u8s (kind_is all number) u8s_lawful

pub units_lawful : Lawful units
units_lawful = record {
  takes = λ p v q fits e. subst (λ (x : Unit {0} × Place). Takes p [] x.1 × Unit {0}) (ok_is (tt, p) (v, q) e) (record { parts = refl; moved = omega arith; rest_fits = fits }, tt);
  again = λ v at rest fits. ap (λ (n : ℕ). Ok (v, front n rest)) (omega arith);
}

-- ---- records that stand in several formats

pub origins_lawful : Lawful origins
origins_lawful = seen_lawful _ _ (u8s ⊗ (numbers ⊗ numbers)) (λ _. refl) (λ _. refl) (u8s_lawful & (numbers_lawful & numbers_lawful))

pub acls_lawful : Lawful acls
acls_lawful = seen_lawful _ _ (u32s ⊗ (strings ⊗ strings)) (λ _. refl) (λ _. refl) (u32s_lawful & (strings_lawful & strings_lawful))
