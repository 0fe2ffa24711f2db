-- The fields of the log's formats: big-endian numbers without sign, bytes and texts and lists behind a length of
-- 32 bits, and tags. The formats are this project's own.
use Rattle.std.specs.Prelude.{◌≡◌, ℕ, ◌^◌, ◌<◌, ◌==◌, Bool, true, List, [], ◌∷◌, ◌++◌, length, Option, Some, None, Ok, Err, if◌then◌else◌}
use Rattle.std.specs.Int.{w8, w32}
use Rattle.std.specs.List.{flat_map, AllByRecursion}
use Rattle.std.specs.Str.{is_utf8}
use Rattle.kp_jute.specs.declared.fault.JuteFail.TheVariants.{BadByte}
use Rattle.kp_jute.specs.Form.{Reading, ◌>>=◌, Form, ◌⊗◌, seen, narrowed}
use Rattle.kp_jute.specs.Jute.{unsigned, unsigned_at, unsigneds, unsigned_ints, unsigned_longs, raws, raw_at, items_at}
use Rattle.kp_model.specs.declared.node.Acl.{Acl}
use Rattle.kp_model.specs.declared.session.Origin.{Origin}
use Rattle.kp_model.specs.Grammar.{is_number, is_timeout}

-- ---- numbers: big-endian, without sign

abbrev pub u8s : Form ℕ
u8s = unsigneds w8 (2 ^ 8)

abbrev pub u32s : Form ℕ
u32s = unsigned_ints

abbrev pub u64s : Form ℕ
u64s = unsigned_longs

-- ---- ranges

-- the values of a form that pass a test; another one is refused where it begins
abbrev pub limited : {A : Type 0} → (A → Bool) → Form A → Form A
limited test f = record {
  Fits = λ v. f.Fits v × (test v ≡ true);
  spell = f.spell;
  read = λ p. f.read p >>= λ x. if test x.0 then Ok x else Err (BadByte p.at);
}

-- indexes, terms, times, sessions, epochs and running numbers: at most 2 ^ 62
abbrev pub numbers : Form ℕ
numbers = limited is_number u64s

-- a session's timeout, 10,000 to 100,000 milliseconds
abbrev pub timeouts : Form ℕ
timeouts = limited is_timeout u32s

-- ---- bytes: a length of 32 bits and that many bytes; texts: the same, in UTF-8

unfoldable pub blob_at : Reading (List ℕ)
blob_at p = do
  n ← unsigned_at w32 p
  raw_at p.at n.0 n.1

abbrev pub blobs : Form (List ℕ)
blobs = record { Fits = λ b. length b < 2 ^ 32; spell = λ b. unsigned w32 (length b) ++ b; read = blob_at }

abbrev pub strings : Form (List ℕ)
strings = limited is_utf8 blobs

-- a session's password: 16 bytes
abbrev pub passwords : Form (List ℕ)
passwords = raws 16

-- ---- lists: a count of 32 bits and that many items

unfoldable pub list_at : {A : Type 0} → Reading A → Reading (List A)
list_at read p = do
  n ← unsigned_at w32 p
  items_at read n.0 n.1

abbrev pub list : {A : Type 0} → (A → List ℕ) → List A → List ℕ
list spell xs = unsigned w32 (length xs) ++ flat_map spell xs

abbrev pub lists : {A : Type 0} → Form A → Form (List A)
lists f = record {
  Fits = λ xs. (length xs < 2 ^ 32) × AllByRecursion f.Fits xs;
  spell = list f.spell;
  read = list_at f.read;
}

-- ---- kinds: a tag of one byte, and fields as the kind has them

-- the kind of this number
abbrev pub kind_in : {K : Type 0} → List K → (K → ℕ) → ℕ → Option K
kind_in [] number n = None
kind_in (k ∷ ks) number n = if n == number k then Some k else kind_in ks number n

-- the kinds, each by its number in one byte
abbrev pub kinds : {K : Type 0} → List K → (K → ℕ) → Form K
kinds all number = narrowed (kind_in all number) number u8s

-- a value of this kind, from the fields that the kind has
abbrev pub read_of : {K A : Type 0} {F : K → Type 0} → ((k : K) → Form (F k)) → ((k : K) → F k → A) → K → Reading A
read_of fields to k p = (fields k).read p >>= λ x. Ok (to k x.0, x.1)

-- no fields
abbrev pub units : Form (Unit {0})
units = record { Fits = λ _. Unit {0}; spell = λ _. []; read = λ p. Ok (tt, p) }

-- ---- records that stand in several formats

abbrev pub origins : Form Origin
origins = seen (λ t. record { node = t.0; boot = t.1.0; conn = t.1.1 }) (λ o. (o.node, (o.boot, o.conn))) (u8s ⊗ (numbers ⊗ numbers))

abbrev pub acls : Form Acl
acls = seen (λ t. record { perms = t.0; scheme = t.1.0; id = t.1.1 }) (λ a. (a.perms, (a.scheme, a.id))) (u32s ⊗ (strings ⊗ strings))
