-- Words of visible ASCII have no space and are UTF-8.
use Rattle.std.proofs.Common.{◌≡◌, ◌<◌, ◌^◌, ℕ, Bool, true, not, ◌&&◌, List, [], ◌∷◌, arith, refl}
use Rattle.std.specs.Prelude.{nat_le}
use Rattle.std.specs.List.{list_all}
use Rattle.std.specs.Str.{is_utf8, IsAscii}
use Rattle.std.specs.Fmt.{decimal}
use Rattle.std.specs.Char.{is_ascii_digit}
use Rattle.std.proofs.lemmas.Str.{is_utf8-from_IsUtf8, IsUtf8-from_ascii}
use Rattle.std.proofs.lemmas.Str.Ascii.{IsAscii-nil, IsAscii-cons}
use Rattle.std.proofs.lemmas.Fmt.{digits_decimal}
use Rattle.std.proofs.lemmas.Bool.Decides.{nat_tests}
use Rattle.kp_text.specs.Words.{is_space, is_lower_hex}
use Rattle.kp_text.proofs.Numerals.{own, left, right}
use Rattle.kp_text.proofs.Spelled.{both}
use Rattle.kp_text.specs.Spelling.{is_plain, is_part}

-- a visible byte of ASCII
abbrev pub is_visible : ℕ → Bool
is_visible b = nat_le 33 b && nat_le b 126

pub all_more : (p q : ℕ → Bool) → ((b : ℕ) → p b ≡ true → q b ≡ true) → (w : List ℕ) → list_all p w ≡ true → list_all q w ≡ true
all_more p q f [] h = refl
all_more p q f (b ∷ w) h = both (q b) (list_all q w) (f b (left (p b) (list_all p w) h)) (all_more p q f w (right (p b) (list_all p w) h))

not_space : (b : ℕ) → is_visible b ≡ true → not (is_space b) ≡ true
not_space b h = grind (arith, nat_tests, h)

below_128 : (b : ℕ) → is_visible b ≡ true → b < 128
below_128 b h = grind (arith, nat_tests, h)

ascii : (w : List ℕ) → list_all is_visible w ≡ true → IsAscii w
ascii [] h = IsAscii-nil
ascii (b ∷ w) h = IsAscii-cons b w (below_128 b (left (is_visible b) (list_all is_visible w) h)) (ascii w (right (is_visible b) (list_all is_visible w) h))

pub visible_part : (w : List ℕ) → list_all is_visible w ≡ true → is_part w ≡ true
visible_part w h = both (is_plain w) (is_utf8 w) (all_more is_visible (λ b. not (is_space b)) not_space w h) (is_utf8-from_IsUtf8 w (IsUtf8-from_ascii w (ascii w h)))

digit_visible : (b : ℕ) → is_ascii_digit b ≡ true → is_visible b ≡ true
digit_visible b h = grind (arith, nat_tests, h)

hex_visible : (b : ℕ) → is_lower_hex b ≡ true → is_visible b ≡ true
hex_visible b h = grind (arith, nat_tests, h)

-- numbers, and texts in hexadecimal, are such words
pub decimal_part : (n : ℕ) → n < 2 ^ 64 → is_part (decimal n) ≡ true
decimal_part n small = visible_part (decimal n) (all_more is_ascii_digit is_visible digit_visible (decimal n) (digits_decimal own n small))

pub hex_part : (w : List ℕ) → list_all is_lower_hex w ≡ true → is_part w ≡ true
hex_part w h = visible_part w (all_more is_lower_hex is_visible hex_visible w h)
