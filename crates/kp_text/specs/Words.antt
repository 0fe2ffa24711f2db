-- Words, numbers and bytes in a line.
use Rattle.std.specs.Prelude.{ℕ, Bool, true, false, not, ◌&&◌, ◌||◌, ◌==◌, nat_le, List, [], ◌∷◌, length, slice_index, Option, Some, None, if◌then◌else◌}
use Rattle.std.specs.List.{slice_split, list_all}
use Rattle.std.specs.Result.{result_ok}
use Rattle.std.specs.Str.{bytes_eq}
use Rattle.std.specs.Str.Parse.{digits_value}
use Rattle.std.specs.Char.{is_ascii_digit}
use Rattle.hex.specs.Hex.{decode_of}
use Rattle.kp_model.specs.Limits.{last_count}
use Rattle.kp_model.specs.Path.{is_empty}
use lib.Chars.{codes}

abbrev pub is_space : ℕ → Bool
is_space b = b == 32

-- the words of a line: what single spaces part
unfoldable pub words_of : List ℕ → List (List ℕ)
words_of line = slice_split is_space line

infixl 10 ◌>>=◌
abbrev pub ◌>>=◌ : {A B : Type 0} → Option A → (A → Option B) → Option B
None >>= f = None
(Some x) >>= f = f x

-- decimal digits, one at least, and no zero before others
abbrev pub is_numeral : List ℕ → Bool
is_numeral word = list_all is_ascii_digit word && (not (is_empty word) && (length word == 1 || not (slice_index word 0 == 48)))

-- the number that a word is, up to a limit
unfoldable pub number_of : ℕ → List ℕ → Option ℕ
number_of most word = if is_numeral word && nat_le (digits_value 10 word) most then Some (digits_value 10 word) else None

-- a digit of lower-case hexadecimal
abbrev pub is_lower_hex : ℕ → Bool
is_lower_hex b = is_ascii_digit b || (nat_le 97 b && nat_le b 102)

-- the bytes that a word is in lower-case hexadecimal
unfoldable pub hex_of : List ℕ → Option (List ℕ)
hex_of word = if list_all is_lower_hex word then result_ok (decode_of word) else None

-- the same of one byte or more, and `-` for none
unfoldable pub data_of : List ℕ → Option (List ℕ)
data_of word = if bytes_eq word (codes "-") then Some [] else (if is_empty word then None else hex_of word)

-- 16 bytes
abbrev pub of_16 : Option (List ℕ) → Option (List ℕ)
of_16 None = None
of_16 (Some bytes) = if length bytes == 16 then Some bytes else None

-- the password that a word is: 16 bytes in lower-case hexadecimal
unfoldable pub passwd_of : List ℕ → Option (List ℕ)
passwd_of word = of_16 (hex_of word)

-- the version that matches any: -1 in two's complement of 32 bits
abbrev pub any_version : ℕ
any_version = 4294967295

-- the version that a word is: a number, or `-1` for any
unfoldable pub version_of : List ℕ → Option ℕ
version_of word = if bytes_eq word (codes "-1") then Some any_version else number_of last_count word

-- a path is any word; a word has one character at least
abbrev pub path_of : List ℕ → Option (List ℕ)
path_of word = if is_empty word then None else Some word
