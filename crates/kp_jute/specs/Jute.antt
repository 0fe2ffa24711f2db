-- The primitives of jute, the record format of ZooKeeper's protocol: numbers, booleans, buffers, texts and vectors.
use Rattle.std.specs.Prelude.{◌≡◌, ℕ, zero, suc, ◌+◌, ◌^◌, ◌<◌, ℤ, pos, negsuc, Bool, true, false, List, [], ◌∷◌, ◌++◌, length, take, Option, Some, None, IfSome, Result, Ok, Err, nat_lt, not, if◌then◌else◌, FitsSigned}
use Rattle.std.specs.Int.{Width, w32, w64, byte_len, from_be_bytes, to_be_bytes, cast_signed, cast_unsigned}
use Rattle.std.specs.List.{flat_map, AllByRecursion}
use Rattle.std.specs.Ordering.{int_eq}
use Rattle.std.specs.Str.{is_utf8}
use Rattle.kp_jute.specs.declared.fault.JuteFail.{JuteFail}
use Rattle.kp_jute.specs.declared.fault.JuteFail.TheVariants.{Short, BadLength, BadByte}
use Rattle.kp_jute.specs.Form.{Place, front, past, Reading, ◌>>=◌, Form, narrowed, ended}

-- ---- numbers: big-endian, in two's complement

unfoldable pub number : Width → ℤ → List ℕ
number w z = to_be_bytes w (cast_unsigned w z)

unfoldable pub number_of : Width → List ℕ → ℤ
number_of w bytes = cast_signed w (from_be_bytes w bytes)

-- n bytes of a field that begins at from
unfoldable pub raw_at : ℕ → ℕ → Reading (List ℕ)
raw_at from n p = if nat_lt (length p.rest) n then Err (Short from) else Ok (take n p.rest, past n p)

unfoldable pub number_at : Width → Reading ℤ
number_at w p = do
  b ← raw_at p.at (byte_len w) p
  Ok (number_of w b.0, b.1)

abbrev pub numbers : Width → Form ℤ
numbers w = record { Fits = FitsSigned w; spell = number w; read = number_at w }

-- int, of 4 bytes, and long, of 8
abbrev pub ints : Form ℤ
ints = numbers w32

abbrev pub longs : Form ℤ
longs = numbers w64

-- ---- unsigned numbers: big-endian

unfoldable pub unsigned : Width → ℕ → List ℕ
unsigned w n = to_be_bytes w n

unfoldable pub unsigned_of : Width → List ℕ → ℕ
unsigned_of w bytes = from_be_bytes w bytes

unfoldable pub unsigned_at : Width → Reading ℕ
unsigned_at w p = do
  b ← raw_at p.at (byte_len w) p
  Ok (unsigned_of w b.0, b.1)

-- those below the limit of the width
abbrev pub unsigneds : Width → ℕ → Form ℕ
unsigneds w limit = record { Fits = λ n. n < limit; spell = unsigned w; read = unsigned_at w }

-- the bytes of an int and of a long, as numbers without a sign
abbrev pub unsigned_ints : Form ℕ
unsigned_ints = unsigneds w32 (2 ^ 32)

abbrev pub unsigned_longs : Form ℕ
unsigned_longs = unsigneds w64 (2 ^ 64)

-- ---- n bytes as they are

abbrev pub raws : ℕ → Form (List ℕ)
raws n = record { Fits = λ bytes. length bytes ≡ n; spell = λ bytes. bytes; read = λ p. raw_at p.at n p }

-- ---- booleans: one byte, 0 or 1

abbrev pub boolean : Bool → List ℕ
boolean false = 0 ∷ []
boolean true = 1 ∷ []

abbrev pub boolean_in : ℕ → List ℕ → Result (Bool × Place) JuteFail
boolean_in at [] = Err (Short at)
boolean_in at (zero ∷ rest) = Ok (false, front (at + 1) rest)
boolean_in at (suc zero ∷ rest) = Ok (true, front (at + 1) rest)
boolean_in at (suc (suc b) ∷ rest) = Err (BadByte at)

unfoldable pub boolean_at : Reading Bool
boolean_at p = boolean_in p.at p.rest

abbrev pub booleans : Form Bool
booleans = record { Fits = λ _. Unit {0}; spell = boolean; read = boolean_at }

-- ---- lengths and counts: an int, -1 for null

abbrev pub count : Option ℕ → List ℕ
count None = number w32 (negsuc 0)
count (Some n) = number w32 (pos n)

abbrev pub count_of : ℕ → ℤ → Result (Option ℕ) JuteFail
count_of at (pos n) = Ok (Some n)
count_of at (negsuc zero) = Ok None
count_of at (negsuc (suc n)) = Err (BadLength at)

unfoldable pub count_at : Reading (Option ℕ)
count_at p = do
  n ← number_at w32 p
  c ← count_of p.at n.0
  Ok (c, n.1)

abbrev pub counts : Form (Option ℕ)
counts = record { Fits = λ o. IfSome o (λ n. n < 2 ^ 31); spell = count; read = count_at }

-- ---- buffers: a length and that many bytes; texts: the same, in UTF-8

abbrev pub buffer : Option (List ℕ) → List ℕ
buffer None = count None
buffer (Some bytes) = count (Some (length bytes)) ++ bytes

abbrev pub bytes_in : ℕ → Option ℕ → Place → Result (Option (List ℕ) × Place) JuteFail
bytes_in at None q = Ok (None, q)
bytes_in at (Some n) q = raw_at at n q >>= λ b. Ok (Some b.0, b.1)

unfoldable pub buffer_at : Reading (Option (List ℕ))
buffer_at p = do
  n ← count_at p
  bytes_in p.at n.0 n.1

abbrev pub buffers : Form (Option (List ℕ))
buffers = record { Fits = λ o. IfSome o (λ bytes. length bytes < 2 ^ 31); spell = buffer; read = buffer_at }

abbrev pub valid_text : ℕ → List ℕ → Result (List ℕ) JuteFail
valid_text at bytes = if is_utf8 bytes then Ok bytes else Err (BadByte at)

abbrev pub text_in : ℕ → Option (List ℕ) → Place → Result (Option (List ℕ) × Place) JuteFail
text_in at None q = Ok (None, q)
text_in at (Some bytes) q = valid_text at bytes >>= λ text. Ok (Some text, q)

unfoldable pub text_at : Reading (Option (List ℕ))
text_at p = do
  b ← buffer_at p
  text_in p.at b.0 b.1

abbrev pub texts : Form (Option (List ℕ))
texts = record { Fits = λ o. IfSome o (λ bytes. (length bytes < 2 ^ 31) × (is_utf8 bytes ≡ true)); spell = buffer; read = text_at }

-- ---- vectors: a count and that many elements

unfoldable pub items_at : {A : Type 0} → Reading A → ℕ → Reading (List A)
items_at read zero p = Ok ([], p)
items_at read (suc n) p = do
  first ← read p
  others ← items_at read n first.1
  Ok (first.0 ∷ others.0, others.1)

abbrev pub some_items_at : {A : Type 0} → Reading A → Option ℕ → Reading (Option (List A))
some_items_at read None q = Ok (None, q)
some_items_at read (Some n) q = do
  xs ← items_at read n q
  Ok (Some xs.0, xs.1)

unfoldable pub vector_at : {A : Type 0} → Reading A → Reading (Option (List A))
vector_at read p = do
  n ← count_at p
  some_items_at read n.0 n.1

abbrev pub vector : {A : Type 0} → (A → List ℕ) → Option (List A) → List ℕ
vector spell None = count None
vector spell (Some xs) = count (Some (length xs)) ++ flat_map spell xs

abbrev pub vectors : {A : Type 0} → Form A → Form (Option (List A))
vectors f = record {
  Fits = λ o. IfSome o (λ xs. (length xs < 2 ^ 31) × AllByRecursion f.Fits xs);
  spell = vector f.spell;
  read = vector_at f.read;
}

-- ---- values up to an end mark, which is read as None

-- what follows a value that was read, and nothing after the mark
abbrev pub behind : {A : Type 0} → Option A → Place → (Place → Result (List A × Place) JuteFail) → Result (List A × Place) JuteFail
behind None q more = Ok ([], q)
behind (Some a) q more = more q >>= λ others. Ok (a ∷ others.0, others.1)

-- n is how many values and marks may come at most
unfoldable pub until_at : {A : Type 0} → Reading (Option A) → ℕ → Reading (List A)
until_at read zero p = Err (Short p.at)
until_at read (suc n) p = read p >>= λ x. behind x.0 x.1 (until_at read n)

abbrev pub untils : {A : Type 0} → Form (Option A) → Form (List A)
untils f = record {
  Fits = λ xs. AllByRecursion (λ x. f.Fits (Some x)) xs × f.Fits None;
  spell = λ xs. flat_map (λ x. f.spell (Some x)) xs ++ f.spell None;
  read = λ p. until_at f.read (suc (length p.rest)) p;
}

-- ---- packets: an int length and a record of exactly that many bytes

abbrev pub present_length : ℕ → Option ℕ → Result ℕ JuteFail
present_length at None = Err (BadLength at)
present_length at (Some n) = Ok n

-- the bytes of the packet, by themselves; reading goes on behind them
unfoldable pub packet_at : Reading Place
packet_at p = do
  c ← count_at p
  n ← present_length p.at c.0
  b ← raw_at p.at n c.1
  Ok (front c.1.at b.0, b.1)

abbrev pub packets : {A : Type 0} → Form A → Form A
packets f = record {
  Fits = λ v. (length (f.spell v) < 2 ^ 31) × f.Fits v;
  spell = λ v. buffer (Some (f.spell v));
  read = λ p. packet_at p >>= λ x. ended (f.read x.0) >>= λ v. Ok (v, x.1);
}

-- the place of a length that isn't known yet
abbrev pub gap : List ℕ
gap = 0 ∷ 0 ∷ 0 ∷ 0 ∷ []

-- ---- fields that hold one value only

abbrev pub only_if : Bool → Option (Unit {0})
only_if true = Some tt
only_if false = None

abbrev pub fixed_ints : ℤ → Form (Unit {0})
fixed_ints z = narrowed (λ x. only_if (int_eq x z)) (λ _. z) ints

abbrev pub same_boolean : Bool → Bool → Bool
same_boolean true b = b
same_boolean false b = not b

abbrev pub fixed_booleans : Bool → Form (Unit {0})
fixed_booleans b = narrowed (λ x. only_if (same_boolean x b)) (λ _. b) booleans

-- ---- a field behind the one that says which it is, as an example

abbrev pub IntOrText : Bool → Type 0
IntOrText true = ℤ
IntOrText false = Option (List ℕ)

abbrev pub int_or_text : (b : Bool) → Form (IntOrText b)
int_or_text true = ints
int_or_text false = texts
