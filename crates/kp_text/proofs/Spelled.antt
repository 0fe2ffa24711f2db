-- A number has one spelling: what `decimal` writes.
use Rattle.std.proofs.Common.{◌≡◌, ◌<◌, ◌≤◌, ◌^◌, ℕ, Bool, true, false, cond, not, ◌&&◌, ◌||◌, List, [], ◌∷◌, length, get_or, eqb, inl, inr, ◌+◌, Some, None, arith, refl, ap, subst, ◌∙◌, sym}
use Rattle.std.specs.Prelude.{nat_le}
use Rattle.std.specs.Fmt.{decimal}
use Rattle.std.specs.Str.Parse.{digits_value}
use Rattle.std.proofs.lemmas.Fmt.{decimal-digits_value, digits_decimal, digits_value-decimal, decimal_nonempty, first_decimal, decimal_digit}
use Rattle.std.proofs.lemmas.Bool.{cases_lt}
use Rattle.std.proofs.lemmas.Bool.Decides.{nat_tests}
use Rattle.kp_model.specs.Path.{is_empty}
use Rattle.kp_text.specs.Words.{is_numeral, number_of}
use Rattle.kp_text.proofs.Numerals.{own, left, right, some}

-- what is read is within the limit and spelled so
pub chosen : {A : Type 0} (b : Bool) (x y : A) → cond b (Some x) None ≡ Some y → (b ≡ true) × (x ≡ y)
chosen true x y e = (refl, cc)
chosen false x y e = absurd (cc)

one_or_not_zero : (bs : List ℕ) → (eqb (length bs) 1 || not (eqb (get_or bs 0 0) 48)) ≡ true → get_or bs 0 0 ≡ 48 → length bs ≡ 1
one_or_not_zero bs h z = grind (arith, nat_tests, h, z)

pub number_is_spelled : (most n : ℕ) (w : List ℕ) → most < 2 ^ 64 → number_of most w ≡ Some n → (w ≡ decimal n) × (n ≤ most)
unfolding number_of
number_is_spelled most n w fits e =
    let c = chosen (is_numeral w && nat_le (digits_value 10 w) most) (digits_value 10 w) n e in
    let numeral : is_numeral w ≡ true = left (is_numeral w) (nat_le (digits_value 10 w) most) c.0 in
    let within : nat_le (digits_value 10 w) most ≡ true = right (is_numeral w) (nat_le (digits_value 10 w) most) c.0 in
    let small : digits_value 10 w ≤ most = grind (arith, nat_tests, within) in
    let spelled = decimal-digits_value own w (left _ _ numeral) (some w (left _ _ (right _ _ numeral))) (one_or_not_zero w (right _ _ (right _ _ numeral))) (omega (arith, small, fits)) in
    (sym spelled ∙ ap decimal c.1, subst (λ k. k ≤ most) c.1 small)

pub not_empty : (bs : List ℕ) → 0 < length bs → not (is_empty bs) ≡ true
not_empty [] h = absurd (omega arith)
not_empty (b ∷ bs) h = refl

pub both : (a b : Bool) → a ≡ true → b ≡ true → (a && b) ≡ true
both true b p q = q
both false b p q = absurd (cc)

leading : (n : ℕ) → n < 2 ^ 64 → (eqb (length (decimal n)) 1 || not (eqb (get_or (decimal n) 0 0) 48)) ≡ true
leading n fits = elim (cases_lt 0 n) [
  | inl above ↦ let f = first_decimal n above fits in grind (arith, nat_tests, f)
  | inr zero ↦ let e : decimal n ≡ (48 + n) ∷ [] = decimal_digit n (omega arith) in rw e (grind (arith, nat_tests))
]

-- what is spelled so is read
pub spelled_is_read : (most n : ℕ) → n ≤ most → most < 2 ^ 64 → number_of most (decimal n) ≡ Some n
unfolding number_of
spelled_is_read most n le fits =
    let small : n < 2 ^ 64 = omega (arith, le, fits) in
    let value = digits_value-decimal own n small in
    let numeral = both _ _ (digits_decimal own n small) (both _ _ (not_empty (decimal n) (decimal_nonempty n small)) (leading n small)) in
    let within : nat_le (digits_value 10 (decimal n)) most ≡ true = grind (arith, nat_tests, value, le) in
    ap (λ b. cond b (Some (digits_value 10 (decimal n))) None) (both _ _ numeral within) ∙ ap Some value
