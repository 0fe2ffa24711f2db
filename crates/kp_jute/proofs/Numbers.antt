-- Numbers and booleans: each form is lawful.
use Rattle.std.proofs.Common.{◌≡◌, ℕ, zero, suc, ◌+◌, ◌^◌, ◌<◌, ◌≤◌, ℤ, Bool, true, false, ltb, List, [], ◌∷◌, ◌++◌, length, take, Ok, refl, sym, ap, subst, ◌∙◌, arith, length-append}
use Rattle.std.specs.Prelude.{FitsSigned}
use Rattle.std.specs.Int.{Width, w32, w64, byte_len, from_be_bytes, to_be_bytes, cast_signed, cast_unsigned}
use Rattle.std.proofs.lemmas.Bool.{ltb-false, le-ltb}
use Rattle.std.proofs.lemmas.List.{take_at, drop_at, take-append-drop, length-take}
use Rattle.std.proofs.lemmas.Nat.{be_bytes_4, be_bytes_8, from_be_bytes-to_be_bytes_4, from_be_bytes-to_be_bytes_8}
use Rattle.std.proofs.lemmas.Int.{of_z-to_z, to_z-of_z}
use Rattle.std.proofs.Math.Facts.{sfits_to_z, Fits-of_z, Fits-of_lt, Fits-lt-pow}
use Rattle.kp_jute.specs.declared.fault.JuteFail.TheVariants.{Short}
use Rattle.kp_jute.specs.Form.{IsBytes, Takes, front, Lawful, Place, past}
use Rattle.kp_jute.specs.Jute.{number, number_of, raw_at, number_at, numbers, ints, longs, unsigned, unsigned_of, unsigned_at, unsigneds, unsigned_ints, unsigned_longs, raws, boolean_in, boolean_at, booleans}
use Rattle.kp_jute.proofs.Combined.{IsBytes-drop, IsBytes-take, bind_ok, guard_ok, ok_is}

-- ---- numbers

pub record IsWide (w : Width) (limit : ℕ) : Type 0 where
  pub len : (n : ℕ) → length (to_be_bytes w n) ≡ byte_len w
  pub back : (bytes : List ℕ) → length bytes ≡ byte_len w → IsBytes bytes → to_be_bytes w (from_be_bytes w bytes) ≡ bytes
  pub again : (n : ℕ) → n < limit → from_be_bytes w (to_be_bytes w n) ≡ n
  pub below : (bytes : List ℕ) → IsBytes bytes → from_be_bytes w bytes < limit
  pub unsigned : (n : ℕ) → n < limit → cast_unsigned w (cast_signed w n) ≡ n
  pub fits : (n : ℕ) → n < limit → FitsSigned w (cast_signed w n)
  pub unsigned_below : (z : ℤ) → FitsSigned w z → cast_unsigned w z < limit

pub wide32 : IsWide w32 (2 ^ 32)
wide32 = record {
  len = λ n. refl;
  back = λ bytes len fits. be_bytes_4 bytes _ len fits refl;
  again = λ n lt. from_be_bytes-to_be_bytes_4 n lt;
  below = λ bytes fits. omega (arith, fits 0, fits 1, fits 2, fits 3);
  unsigned = λ n lt. of_z-to_z w32 n lt;
  fits = λ n lt. sfits_to_z (Fits-of_lt lt);
  unsigned_below = λ z fits. Fits-lt-pow (Fits-of_z fits);
}

pub wide64 : IsWide w64 (2 ^ 64)
wide64 = record {
  len = λ n. refl;
  back = λ bytes len fits. be_bytes_8 bytes _ len fits refl;
  again = λ n lt. from_be_bytes-to_be_bytes_8 n lt;
  below = λ bytes fits. omega (arith, fits 0, fits 1, fits 2, fits 3, fits 4, fits 5, fits 6, fits 7);
  unsigned = λ n lt. of_z-to_z w64 n lt;
  fits = λ n lt. sfits_to_z (Fits-of_lt lt);
  unsigned_below = λ z fits. Fits-lt-pow (Fits-of_z fits);
}

pub raw_takes : (from n : ℕ) (p : Place) (b : List ℕ) (q : Place) → IsBytes p.rest → raw_at from n p ≡ Ok (b, q) → Takes p b q × (length b ≡ n) × IsBytes b
unfolding raw_at
raw_takes from n p b q fits e =
    let g = guard_ok (ltb (length p.rest) n) (Short from) (take n p.rest, past n p) (b, q) e in
    let long : n ≤ length p.rest = ltb-false _ _ g.0 in
    let len : length (take n p.rest) ≡ n = omega (arith, length-take n p.rest) in
    subst (λ (x : List ℕ × Place). Takes p x.0 x.1 × (length x.0 ≡ n) × IsBytes x.0) g.1 (record { parts = sym (take-append-drop n p.rest); moved = ap (λ (k : ℕ). p.at + k) (sym len); rest_fits = IsBytes-drop n p.rest fits }, len, IsBytes-take n p.rest fits)

pub raw_again : (from at n : ℕ) (b rest : List ℕ) → length b ≡ n → raw_at from n (front at (b ++ rest)) ≡ Ok (b, front (at + n) rest)
unfolding raw_at
raw_again from at n b rest len =
    let long : ltb (length (b ++ rest)) n ≡ false = le-ltb _ _ (omega (arith, length-append b rest)) in
    rw (long, take_at b rest n len, drop_at b rest n len) refl

pub number_takes : (w : Width) (limit : ℕ) → IsWide w limit → (p : Place) (v : ℤ) (q : Place) → IsBytes p.rest → number_at w p ≡ Ok (v, q) → Takes p (number w v) q × FitsSigned w v
unfolding number_at number_of number
number_takes w limit wide p v q fits e =
    let a = bind_ok (raw_at p.at (byte_len w) p) (λ b. Ok (number_of w b.0, b.1)) (v, q) e in
    let t = raw_takes p.at (byte_len w) p a.0.0 a.0.1 fits a.1 in
    let below = wide.below a.0.0 t.2 in
    let spelled : number w (number_of w a.0.0) ≡ a.0.0 = ap (λ (n : ℕ). to_be_bytes w n) (wide.unsigned (from_be_bytes w a.0.0) below) ∙ wide.back a.0.0 t.1 t.2 in
    subst (λ (x : ℤ × Place). Takes p (number w x.0) x.1 × FitsSigned w x.0) (ok_is (number_of w a.0.0, a.0.1) (v, q) a.2) (subst (λ (b : List ℕ). Takes p b a.0.1) (sym spelled) t.0, wide.fits (from_be_bytes w a.0.0) below)

pub number_again : (w : Width) (limit : ℕ) → IsWide w limit → (v : ℤ) (at : ℕ) (rest : List ℕ) → FitsSigned w v → number_at w (front at (number w v ++ rest)) ≡ Ok (v, front (at + length (number w v)) rest)
unfolding number_at number_of number
number_again w limit wide v at rest fits =
    let n = cast_unsigned w v in
    let len = wide.len n in
    rw (raw_again at at (byte_len w) (to_be_bytes w n) rest len, wide.again n (wide.unsigned_below v fits), to_z-of_z w v fits, len) refl

pub numbers_lawful : (w : Width) (limit : ℕ) → IsWide w limit → Lawful (numbers w)
numbers_lawful w limit wide = record { takes = number_takes w limit wide; again = number_again w limit wide }

pub ints_lawful : Lawful ints
ints_lawful = numbers_lawful w32 (2 ^ 32) wide32

pub longs_lawful : Lawful longs
longs_lawful = numbers_lawful w64 (2 ^ 64) wide64

-- ---- numbers without a sign, and bytes as they are

pub unsigneds_lawful : (w : Width) (limit : ℕ) → IsWide w limit → Lawful (unsigneds w limit)
unfolding unsigned_at unsigned_of unsigned
unsigneds_lawful w limit wide = record {
  takes = λ p v q fits e.
      let a = bind_ok (raw_at p.at (byte_len w) p) (λ b. Ok (unsigned_of w b.0, b.1)) (v, q) e in
      let t = raw_takes p.at (byte_len w) p a.0.0 a.0.1 fits a.1 in
      subst (λ (x : ℕ × Place). Takes p (unsigned w x.0) x.1 × (x.0 < limit)) (ok_is (unsigned_of w a.0.0, a.0.1) (v, q) a.2) (subst (λ (b : List ℕ). Takes p b a.0.1) (sym (wide.back a.0.0 t.1 t.2)) t.0, wide.below a.0.0 t.2);
  again = λ v at rest fits.
      let len = wide.len v in
      rw (raw_again at at (byte_len w) (to_be_bytes w v) rest len, wide.again v fits, len) refl;
}

pub unsigned_ints_lawful : Lawful unsigned_ints
unsigned_ints_lawful = unsigneds_lawful w32 (2 ^ 32) wide32

pub unsigned_longs_lawful : Lawful unsigned_longs
unsigned_longs_lawful = unsigneds_lawful w64 (2 ^ 64) wide64

pub raws_lawful : (n : ℕ) → Lawful (raws n)
raws_lawful n = record {
  takes = λ p v q fits e. let t = raw_takes p.at n p v q fits e in (t.0, t.1);
  again = λ v at rest fits. raw_again at at n v rest fits ∙ ap (λ (k : ℕ). Ok (v, front (at + k) rest)) (sym fits);
}

-- ---- booleans

IsBytes-rest : (b : ℕ) (bytes : List ℕ) → IsBytes (b ∷ bytes) → IsBytes bytes
IsBytes-rest b bytes h i = h (suc i)

boolean_takes : (at : ℕ) (bytes : List ℕ) (v : Bool) (q : Place) → IsBytes bytes → boolean_in at bytes ≡ Ok (v, q) → Takes (front at bytes) (booleans.spell v) q × Unit {0}
boolean_takes at [] v q fits e = absurd cc
boolean_takes at (zero ∷ rest) v q fits e = subst (λ (x : Bool × Place). Takes (front at (0 ∷ rest)) (booleans.spell x.0) x.1 × Unit {0}) (ok_is (false, front (at + 1) rest) (v, q) e) (record { parts = refl; moved = refl; rest_fits = IsBytes-rest 0 rest fits }, tt)
boolean_takes at (suc zero ∷ rest) v q fits e = subst (λ (x : Bool × Place). Takes (front at (1 ∷ rest)) (booleans.spell x.0) x.1 × Unit {0}) (ok_is (true, front (at + 1) rest) (v, q) e) (record { parts = refl; moved = refl; rest_fits = IsBytes-rest 1 rest fits }, tt)
boolean_takes at (suc (suc b) ∷ rest) v q fits e = absurd cc

boolean_again : (v : Bool) (at : ℕ) (rest : List ℕ) → Unit {0} → boolean_at (front at (booleans.spell v ++ rest)) ≡ Ok (v, front (at + length (booleans.spell v)) rest)
unfolding boolean_at
boolean_again false at rest h = refl
boolean_again true at rest h = refl

pub booleans_lawful : Lawful booleans
unfolding boolean_at
booleans_lawful = record { takes = λ p v q fits e. boolean_takes p.at p.rest v q fits e; again = boolean_again }
