-- Numerals that do not fit.
use Rattle.std.proofs.Common.{◌≡◌, ◌<◌, ◌^◌, ℕ, Bool, true, false, cond, not, ◌&&◌, inl, inr, List, [], ◌∷◌, length, Err, None, arith, rules, refl, ap}
use Rattle.std.specs.List.{list_all}
use Rattle.std.specs.Char.{is_ascii_digit}
use Rattle.std.specs.Str.Parse.{digits_value, ParsesUnsigned}
use Rattle.std.proofs.lemmas.Str.Parse.{IsNumeralModel, numerals_by_value, parse_digits}
use Rattle.std.proofs.lemmas.Bool.{cases_lt}
use Rattle.std.specs.Prelude.{nat_le}
use Rattle.std.proofs.lemmas.Bool.Decides.{nat_tests}
use Rattle.kp_model.specs.Path.{is_empty}
use Rattle.kp_text.specs.Words.{is_numeral, number_of}

pub own : IsNumeralModel (λ ds. list_all is_ascii_digit ds ≡ true) (digits_value 10)
own = numerals_by_value _ (search rules)

pub left : (a b : Bool) → (a && b) ≡ true → a ≡ true
left true b h = refl
left false b h = absurd (cc)

pub right : (a b : Bool) → (a && b) ≡ true → b ≡ true
right true b h = h
right false b h = absurd (cc)

pub some : (bs : List ℕ) → not (is_empty bs) ≡ true → 0 < length bs
some [] h = absurd (cc)
some (b ∷ bs) h = omega arith

-- a test that fails takes the other way
neither : {A : Type 0} (a b : Bool) (x y : A) → b ≡ false → cond (a && b) x y ≡ y
neither true b x y h = ap (λ v. cond v x y) h
neither false b x y h = refl

pub too_large : {E : Type 0} (most : ℕ) (word : List ℕ) (e : E) → most < 2 ^ 64 → ParsesUnsigned 64 10 word (Err e) → is_numeral word ≡ true → number_of most word ≡ None
unfolding number_of
too_large most word e fits parses digits =
    let all = left _ _ digits in
    let nonempty = some word (left _ _ (right _ _ digits)) in
    let outside = parse_digits own 64 word (Err e) parses all in
    let above : most < digits_value 10 word = elim (cases_lt (digits_value 10 word) (2 ^ 64)) [ inl small ↦ absurd (outside (nonempty, small)) | inr large ↦ omega (arith, fits, large) ] in
    neither (is_numeral word) (nat_le (digits_value 10 word) most) _ _ (grind (arith, nat_tests, above))
