-- Bytes have one spelling in lower-case hexadecimal.
use Rattle.std.proofs.Common.{◌≡◌, ◌<◌, ◌+◌, ◌*◌, ◌/◌, ◌%◌, ◌==◌, ℕ, zero, suc, Bool, true, false, cond, ◌&&◌, inl, inr, List, [], ◌∷◌, length, slice_index, Option, Some, None, Result, Ok, Err, arith, refl, ap, subst, ◌∙◌, sym}
use Rattle.std.specs.Prelude.{nat_le}
use Rattle.std.specs.List.{list_all}
use Rattle.std.specs.Result.{result_ok, result_unwrap_or}
use Rattle.std.specs.Str.{bytes_eq}
use Rattle.std.proofs.lemmas.Bool.{cases_lt, eqb-true}
use Rattle.std.proofs.lemmas.Bool.Decides.{nat_tests}
use Rattle.std.proofs.lemmas.Slice.Eq.{bytes_eq-Decides}
use Rattle.hex.specs.Hex.{IsBytes, decode_of, decode_pairs, digit_or_error, encode_lower, encode_with, hex_digit_value, lower_digits, pair_value, value_at, ◌>>=◌}
use Rattle.hex.specs.declared.error.FromHexError.{FromHexError}
use Rattle.hex.proofs.HexLemmas.{decode_of-encode_lower, decode_of-even, decode_of-ok, length-encode_with}
use Rattle.kp_model.specs.Path.{is_empty}
use Rattle.kp_text.specs.Words.{is_lower_hex, hex_of, data_of, of_16, passwd_of}
use Rattle.kp_text.specs.Spelling.{are_bytes, spelled_data}
use Rattle.kp_text.proofs.Numerals.{left, right}
use Rattle.kp_text.proofs.Spelled.{both, chosen}
use Rattle.kp_text.specs.Spelling.{is_part}
use Rattle.kp_text.proofs.Visible.{visible_part, hex_part}
use lib.Chars.{codes}

-- ---- the sixteen digits

-- the digit of a value is in lower case: 48 is `0`, and 97 is `a`
abbrev is_digit_of : ℕ → Bool
is_digit_of d = is_lower_hex (slice_index lower_digits d) && slice_index lower_digits d == cond (nat_le d 9) (48 + d) (87 + d)

abbrev each_below : (ℕ → Bool) → ℕ → Bool
each_below p zero = true
each_below p (suc n) = p n && each_below p n

at_each : (p : ℕ → Bool) (n k : ℕ) → each_below p n ≡ true → k < n → p k ≡ true
at_each p zero k h lt = absurd (omega arith)
at_each p (suc n) k h lt = elim (cases_lt k n) [
  | inl below ↦ at_each p n k (right (p n) (each_below p n) h) below
  | inr top ↦ let e : k ≡ n = omega arith in rw e (left (p n) (each_below p n) h)
]

digit_of : (d : ℕ) → d < 16 → is_digit_of d ≡ true
digit_of d lt = at_each is_digit_of 16 d refl lt

lower_at : (d : ℕ) → d < 16 → is_lower_hex (slice_index lower_digits d) ≡ true
lower_at d lt = left _ _ (digit_of d lt)

code_at : (d : ℕ) → d < 16 → slice_index lower_digits d ≡ cond (nat_le d 9) (48 + d) (87 + d)
code_at d lt = eqb-true (slice_index lower_digits d) (cond (nat_le d 9) (48 + d) (87 + d)) (right _ _ (digit_of d lt))

value_small : (c v : ℕ) → hex_digit_value c ≡ Some v → v < 16
value_small c v h = grind (arith)

value_code : (c v : ℕ) → is_lower_hex c ≡ true → hex_digit_value c ≡ Some v → c ≡ cond (nat_le v 9) (48 + v) (87 + v)
value_code c v low h = grind (arith, nat_tests, low, h)

-- a digit in lower case is the digit of its value
digit_back : (c v : ℕ) → is_lower_hex c ≡ true → hex_digit_value c ≡ Some v → slice_index lower_digits v ≡ c
digit_back c v low h = code_at v (value_small c v h) ∙ sym (value_code c v low h)

-- ---- bytes

bytes_below : (bytes : List ℕ) → are_bytes bytes ≡ true → IsBytes bytes
bytes_below [] h i = omega arith
bytes_below (b ∷ bs) h zero = let small = left (nat_le b 255) (are_bytes bs) h in grind (arith, nat_tests, small)
bytes_below (b ∷ bs) h (suc i) = bytes_below bs (right (nat_le b 255) (are_bytes bs) h) i

below_bytes : (bytes : List ℕ) → IsBytes bytes → are_bytes bytes ≡ true
below_bytes [] h = refl
below_bytes (b ∷ bs) h = let small : b < 256 = h 0 in both (nat_le b 255) (are_bytes bs) (grind (arith, nat_tests, small)) (below_bytes bs (λ i. h (suc i)))

-- what is written has digits in lower case alone
lower_encoded : (bytes : List ℕ) → are_bytes bytes ≡ true → list_all is_lower_hex (encode_lower bytes) ≡ true
unfolding encode_with
lower_encoded [] h = refl
lower_encoded (b ∷ bs) h =
    let test = left (nat_le b 255) (are_bytes bs) h in
    let small : b < 256 = grind (arith, nat_tests, test) in
    let rest = lower_encoded bs (right (nat_le b 255) (are_bytes bs) h) in
    both _ _ (lower_at (b / 16) (omega (arith, small))) (both _ _ (lower_at (b % 16) (omega arith)) rest)

-- ---- what is read is spelled so

bind_ok : {A B : Type 0} (r : Result A FromHexError) (f : A → Result B FromHexError) (y : B) → (r >>= f) ≡ Ok y → (x : A) × (r ≡ Ok x) × (f x ≡ Ok y)
bind_ok (Ok x) f y h = (x, refl, h)
bind_ok (Err e) f y h = cc h

digit_read : (c i : ℕ) (o : Option ℕ) (v : ℕ) → digit_or_error c i o ≡ Ok v → o ≡ Some v
digit_read c i (Some w) v h = ap Some (ap (λ (r : Result ℕ FromHexError). result_unwrap_or r 0) h)
digit_read c i None v h = cc h

pairs_are_spelled : (i : ℕ) (s bytes : List ℕ) → decode_pairs i s ≡ Ok bytes → list_all is_lower_hex s ≡ true → s ≡ encode_lower bytes
unfolding decode_pairs encode_with
pairs_are_spelled i [] bytes h low =
    let e : [] ≡ bytes = ap (λ (r : Result (List ℕ) FromHexError). result_unwrap_or r []) h in
    rw (← e) refl
pairs_are_spelled i (a ∷ []) bytes h low = cc h
pairs_are_spelled i (a ∷ b ∷ rest) bytes h low =
    let p0 = bind_ok (pair_value a b i) _ bytes h in
    let p1 = bind_ok (value_at a i) _ p0.0 p0.1 in
    let p2 = bind_ok (value_at b (i + 1)) _ p0.0 p1.2 in
    let p3 = bind_ok (decode_pairs (i + 2) rest) _ bytes p0.2 in
    let low_a : is_lower_hex a ≡ true = left _ _ low in
    let low_b : is_lower_hex b ≡ true = left _ _ (right (is_lower_hex a) (list_all is_lower_hex (b ∷ rest)) low) in
    let low_rest = right (is_lower_hex b) (list_all is_lower_hex rest) (right (is_lower_hex a) (list_all is_lower_hex (b ∷ rest)) low) in
    let ih = pairs_are_spelled (i + 2) rest p3.0 p3.1 low_rest in
    let e : p0.0 ∷ p3.0 ≡ bytes = ap (λ (r : Result (List ℕ) FromHexError). result_unwrap_or r []) p3.2 in
    let read_a = digit_read a i (hex_digit_value a) p1.0 p1.1 in
    let read_b = digit_read b (i + 1) (hex_digit_value b) p2.0 p2.1 in
    let small_a = value_small a p1.0 read_a in
    let small_b = value_small b p2.0 read_b in
    let byte : p1.0 * 16 + p2.0 ≡ p0.0 = ap (λ (r : Result ℕ FromHexError). result_unwrap_or r 0) p2.2 in
    let high : p0.0 / 16 ≡ p1.0 = omega (arith, byte, small_a, small_b) in
    let rest_of : p0.0 % 16 ≡ p2.0 = omega (arith, byte, small_a, small_b) in
    let da : a ≡ slice_index lower_digits (p0.0 / 16) = sym (ap (slice_index lower_digits) high ∙ digit_back a p1.0 low_a read_a) in
    let db : b ≡ slice_index lower_digits (p0.0 % 16) = sym (ap (slice_index lower_digits) rest_of ∙ digit_back b p2.0 low_b read_b) in
    ap (λ x. x ∷ b ∷ rest) da ∙ ap (λ x. slice_index lower_digits (p0.0 / 16) ∷ x ∷ rest) db
    ∙ ap (λ l. slice_index lower_digits (p0.0 / 16) ∷ slice_index lower_digits (p0.0 % 16) ∷ l) ih ∙ ap encode_lower e

ok_of : (r : Result (List ℕ) FromHexError) (bytes : List ℕ) → result_ok r ≡ Some bytes → r ≡ Ok bytes
ok_of (Ok x) bytes h = cc
ok_of (Err e) bytes h = absurd (cc)

-- a choice that gave a value took the first way
pub first_way : {A : Type 0} (b : Bool) (x : Option A) (y : A) → cond b x None ≡ Some y → (b ≡ true) × (x ≡ Some y)
first_way true x y e = (refl, e)
first_way false x y e = absurd (cc)

pub hex_is_spelled : (w bytes : List ℕ) → hex_of w ≡ Some bytes → (w ≡ encode_lower bytes) × (are_bytes bytes ≡ true)
unfolding hex_of
hex_is_spelled w bytes h =
    let c = first_way (list_all is_lower_hex w) (result_ok (decode_of w)) bytes h in
    let ok = ok_of (decode_of w) bytes c.1 in
    let facts = decode_of-ok w bytes ok in
    (pairs_are_spelled 0 w bytes (sym (decode_of-even w facts.0) ∙ ok) c.0, below_bytes bytes facts.3)

pub hex_is_read : (bytes : List ℕ) → are_bytes bytes ≡ true → hex_of (encode_lower bytes) ≡ Some bytes
unfolding hex_of
hex_is_read bytes h =
    ap (λ b. cond b (result_ok (decode_of (encode_lower bytes))) None) (lower_encoded bytes h) ∙ ap result_ok (decode_of-encode_lower bytes (bytes_below bytes h))

pub hex_word : (bytes : List ℕ) → are_bytes bytes ≡ true → is_part (encode_lower bytes) ≡ true
hex_word bytes h = hex_part (encode_lower bytes) (lower_encoded bytes h)

-- ---- data and passwords

data_case : (w bytes : List ℕ) (b : Bool) → bytes_eq w (codes "-") ≡ b → cond b (Some []) (cond (is_empty w) None (hex_of w)) ≡ Some bytes → (w ≡ spelled_data bytes) × (are_bytes bytes ≡ true)
unfolding encode_with
data_case w [] true t e = ((bytes_eq-Decides w (codes "-")).0 t, refl)
data_case w (b ∷ bs) true t e = absurd (cc)
data_case [] bytes false t e = absurd (cc)
data_case (x ∷ w) [] false t e = let h = (hex_is_spelled (x ∷ w) [] e).0 in cc h
data_case (x ∷ w) (b ∷ bs) false t e = hex_is_spelled (x ∷ w) (b ∷ bs) e

pub data_is_spelled : (w bytes : List ℕ) → data_of w ≡ Some bytes → (w ≡ spelled_data bytes) × (are_bytes bytes ≡ true)
unfolding data_of
data_is_spelled w bytes h = data_case w bytes (bytes_eq w (codes "-")) refl h

longer : (w : List ℕ) (b : Bool) → bytes_eq w (codes "-") ≡ b → 1 < length w → b ≡ false
longer w true t long = let e = ap length ((bytes_eq-Decides w (codes "-")).0 t) in absurd (omega (arith, e, long))
longer w false t long = refl

pub data_is_read : (bytes : List ℕ) → are_bytes bytes ≡ true → data_of (spelled_data bytes) ≡ Some bytes
unfolding data_of encode_with
data_is_read [] h = refl
data_is_read (b ∷ bs) h =
    let text = encode_lower (b ∷ bs) in
    let len = length-encode_with lower_digits (b ∷ bs) in
    ap (λ t. cond t (Some []) (hex_of text)) (longer text (bytes_eq text (codes "-")) refl (omega (arith, len))) ∙ hex_is_read (b ∷ bs) h

pub data_word : (bytes : List ℕ) → are_bytes bytes ≡ true → is_part (spelled_data bytes) ≡ true
data_word [] h = visible_part (codes "-") refl
data_word (b ∷ bs) h = hex_word (b ∷ bs) h

sixteen : (o : Option (List ℕ)) (bytes : List ℕ) → of_16 o ≡ Some bytes → (o ≡ Some bytes) × ((length bytes == 16) ≡ true)
sixteen None bytes e = absurd (cc)
sixteen (Some x) bytes e = let c = chosen (length x == 16) x bytes e in (ap Some c.1, subst (λ k. (length k == 16) ≡ true) c.1 c.0)

pub passwd_is_spelled : (w bytes : List ℕ) → passwd_of w ≡ Some bytes → (w ≡ encode_lower bytes) × ((are_bytes bytes && length bytes == 16) ≡ true)
unfolding passwd_of
passwd_is_spelled w bytes h =
    let c = sixteen (hex_of w) bytes h in
    let s = hex_is_spelled w bytes c.0 in
    (s.0, both (are_bytes bytes) (length bytes == 16) s.1 c.1)

pub passwd_is_read : (bytes : List ℕ) → (are_bytes bytes && length bytes == 16) ≡ true → passwd_of (encode_lower bytes) ≡ Some bytes
unfolding passwd_of
passwd_is_read bytes h =
    ap of_16 (hex_is_read bytes (left (are_bytes bytes) (length bytes == 16) h)) ∙ ap (λ b. cond b (Some bytes) None) (right (are_bytes bytes) (length bytes == 16) h)
