-- A form of a value: which values have a spelling, the spelling, and how it is read from left to right.
use Rattle.std.specs.Prelude.{◌≡◌, ℕ, ◌+◌, ◌<◌, ◌==◌, if◌then◌else◌, List, [], ◌++◌, length, drop, Option, Some, None, IfSome, Result, Ok, Err}
use Rattle.std.proofs.Common.{get_or}
use Rattle.std.specs.List.{flat_map, AllByRecursion}
use Rattle.kp_jute.specs.declared.fault.JuteFail.{JuteFail}
use Rattle.kp_jute.specs.declared.fault.JuteFail.TheVariants.{NoMemory, Short, BadLength, BadByte}

-- where reading stands: how many bytes were read, and those that are left
pub record Place : Type 0 where
  pub at : ℕ
  pub rest : List ℕ

-- the place at, with these bytes left
abbrev pub front : ℕ → List ℕ → Place
front at rest = record { at = at; rest = rest }

-- n bytes further on
abbrev pub past : ℕ → Place → Place
past n p = front (p.at + n) (drop n p.rest)

-- a value and the place behind it, or why there is none
abbrev pub Reading : Type 0 → Type 0
Reading A = Place → Result (A × Place) JuteFail

-- what goes on from a success
infixl 10 ◌>>=◌
abbrev pub ◌>>=◌ : {A B : Type 0} → Result A JuteFail → (A → Result B JuteFail) → Result B JuteFail
(Ok x) >>= f = f x
(Err e) >>= f = Err e

pub record Form (A : Type 0) : Type 1 where
  -- the values that have a spelling
  pub Fits : A → Type 0
  pub spell : A → List ℕ
  pub read : Reading A

-- one field after another
infixr 20 ◌⊗◌
abbrev pub ◌⊗◌ : {A B : Type 0} → Form A → Form B → Form (A × B)
f ⊗ g = record {
  Fits = λ v. f.Fits v.0 × g.Fits v.1;
  spell = λ v. f.spell v.0 ++ g.spell v.1;
  read = λ p. f.read p >>= λ x. g.read x.1 >>= λ y. Ok ((x.0, y.0), y.1);
}

-- the same bytes, seen as another type
abbrev pub seen : {A B : Type 0} → (A → B) → (B → A) → Form A → Form B
seen to from f = record {
  Fits = λ v. f.Fits (from v);
  spell = λ v. f.spell (from v);
  read = λ p. f.read p >>= λ x. Ok (to x.0, x.1);
}

-- the spelling of a value that may be missing
abbrev pub spelled_if : {A : Type 0} → Form A → Option A → List ℕ
spelled_if f None = []
spelled_if f (Some a) = f.spell a

-- one case of a type with cases
abbrev pub part : {A B : Type 0} → (A → B) → (B → Option A) → Form A → Form B
part {A} to from f = record {
  Fits = λ v. (a : A) × (from v ≡ Some a) × f.Fits a;
  spell = λ v. spelled_if f (from v);
  read = λ p. f.read p >>= λ x. Ok (to x.0, x.1);
}

-- a field, and the form that it chooses for what follows
abbrev pub chosen : {A B : Type 0} → (B → A) → Form A → (A → Form B) → Form B
chosen tag f g = record {
  Fits = λ v. f.Fits (tag v) × (g (tag v)).Fits v;
  spell = λ v. f.spell (tag v) ++ (g (tag v)).spell v;
  read = λ p. f.read p >>= λ x. (g x.0).read x.1;
}

-- a field that tells which case follows, and the form of that case
abbrev pub tagged : {A : Type 0} {B : A → Type 0} → Form A → ((a : A) → Form (B a)) → Form ((a : A) × B a)
tagged {A} {B} f g = record {
  Fits = λ v. f.Fits v.0 × (g v.0).Fits v.1;
  spell = λ v. f.spell v.0 ++ (g v.0).spell v.1;
  read = λ p. f.read p >>= λ x. (g x.0).read x.1 >>= λ y. Ok ((x.0, y.0), y.1);
}

-- what a field that began at a place stands for, or its refusal there
abbrev pub meant_at : {B : Type 0} → ℕ → Place → Option B → Result (B × Place) JuteFail
meant_at at q None = Err (BadByte at)
meant_at at q (Some b) = Ok (b, q)

-- the values of a form that stand for something; any other is refused where it begins
abbrev pub narrowed : {A B : Type 0} → (A → Option B) → (B → A) → Form A → Form B
narrowed to from f = record {
  Fits = λ b. f.Fits (from b) × (to (from b) ≡ Some b);
  spell = λ b. f.spell (from b);
  read = λ p. f.read p >>= λ x. meant_at p.at x.1 (to x.0);
}

-- a value that may not be missing: null is refused where it begins
abbrev pub present : {A : Type 0} → Form (Option A) → Form A
present {A} f = narrowed (λ (o : Option A). o) (λ (a : A). Some a) f

-- a value, or nothing where no bytes are left
abbrev pub if_any : {A : Type 0} → Form A → Form (Option A)
if_any f = record {
  Fits = λ o. IfSome o f.Fits;
  spell = spelled_if f;
  read = λ p. if length p.rest == 0 then Ok (None, p) else f.read p >>= λ x. Ok (Some x.0, x.1);
}

-- all bytes that are left
abbrev pub remains : Form (List ℕ)
remains = record {
  Fits = λ _. Unit {0};
  spell = λ bytes. bytes;
  read = λ p. Ok (p.rest, front (p.at + length p.rest) []);
}

-- the value, where no bytes are left behind it; the first of them is refused
abbrev pub ended : {A : Type 0} → Result (A × Place) JuteFail → Result A JuteFail
ended read = read >>= λ x. if length x.1.rest == 0 then Ok x.0 else Err (BadByte x.1.at)

-- the value that all of the bytes spell
abbrev pub whole : {A : Type 0} → Form A → List ℕ → Result A JuteFail
whole f bytes = ended (f.read (front 0 bytes))

-- ---- what a call of a reader has to do with a reading

-- the refusal is that of the reading, where it isn't for want of memory
abbrev pub Fails : {Y : Type 0} → JuteFail → Result Y JuteFail → Type 0
Fails NoMemory read = Unit {0}
Fails (Short at) read = read ≡ Err (Short at)
Fails (BadLength at) read = read ≡ Err (BadLength at)
Fails (BadByte at) read = read ≡ Err (BadByte at)

-- the answer, seen by view, and the place behind it are those of the reading, unless memory ran out
abbrev pub Gives : {X Y : Type 0} → (X → Y) → Result X JuteFail → Place → Result (Y × Place) JuteFail → Type 0
Gives view (Ok x) new read = read ≡ Ok (view x, new)
Gives view (Err e) new read = Fails e read

-- the same of a call that reads nothing further
abbrev pub Answers : {X Y : Type 0} → (X → Y) → Result X JuteFail → Result Y JuteFail → Type 0
Answers view (Ok x) read = read ≡ Ok (view x)
Answers view (Err e) read = Fails e read

-- memory did not run out
abbrev pub IsOfBytes : JuteFail → Type 0
IsOfBytes NoMemory = ⊥
IsOfBytes (Short at) = Unit {0}
IsOfBytes (BadLength at) = Unit {0}
IsOfBytes (BadByte at) = Unit {0}

-- the place that a refusal names; want of memory names none
abbrev pub place_of : JuteFail → Option ℕ
place_of NoMemory = None
place_of (Short at) = Some at
place_of (BadLength at) = Some at
place_of (BadByte at) = Some at

-- ---- what a call of a writer has to do with a spelling

-- the value has a spelling, and it stands behind what was written before
pub record Wrote {A : Type 0} (f : Form A) (v : A) (old new : List ℕ) : Type 0 where
  pub fits : f.Fits v
  pub added : new ≡ old ++ f.spell v

-- the same of the values of a list, one behind the other
pub record WroteAll {A : Type 0} (f : Form A) (vs : List A) (old new : List ℕ) : Type 0 where
  pub fits : AllByRecursion f.Fits vs
  pub added : new ≡ old ++ flat_map f.spell vs

-- ---- laws

-- each number is a byte
abbrev pub IsBytes : List ℕ → Type 0
IsBytes bytes = (i : ℕ) → get_or bytes i 0 < 256

-- from p to q this text was taken
pub record Takes (p : Place) (text : List ℕ) (q : Place) : Type 0 where
  pub parts : p.rest ≡ text ++ q.rest
  pub moved : q.at ≡ p.at + length text
  pub rest_fits : IsBytes q.rest

-- what is read has a spelling, which stood there; and what is spelled, with anything behind it, is read again:
-- so a value is read exactly where the bytes begin with its spelling, and has one spelling
pub record Lawful {A : Type 0} (f : Form A) : Type 0 where
  pub takes : (p : Place) (v : A) (q : Place) → IsBytes p.rest → f.read p ≡ Ok (v, q) → Takes p (f.spell v) q × f.Fits v
  pub again : (v : A) (at : ℕ) (rest : List ℕ) → f.Fits v → f.read (front at (f.spell v ++ rest)) ≡ Ok (v, front (at + length (f.spell v)) rest)

-- the same of a form that takes all bytes that are left, or that looks whether there are any
pub record LawfulAtEnd {A : Type 0} (f : Form A) : Type 0 where
  pub takes : (p : Place) (v : A) (q : Place) → IsBytes p.rest → f.read p ≡ Ok (v, q) → Takes p (f.spell v) q × f.Fits v
  pub again : (v : A) (at : ℕ) → f.Fits v → f.read (front at (f.spell v)) ≡ Ok (v, front (at + length (f.spell v)) [])
