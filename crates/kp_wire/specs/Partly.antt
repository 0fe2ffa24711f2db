-- A type of which some values have a spelling only.
use Rattle.std.specs.Prelude.{[], Option, Some, None, Ok}
use Rattle.kp_jute.specs.Form.{◌>>=◌, Form, spelled_if}

-- what is there has a spelling
abbrev pub fits_if : {A : Type 0} → Form A → Option A → Type 0
fits_if f None = ⊥
fits_if f (Some a) = f.Fits a

-- the same bytes, seen as a type of which some values stand for none
abbrev pub partly : {A B : Type 0} → (A → B) → (B → Option A) → Form A → Form B
partly to from f = record {
  Fits = λ b. fits_if f (from b);
  spell = λ b. spelled_if f (from b);
  read = λ p. f.read p >>= λ x. Ok (to x.0, x.1);
}

-- no bytes
abbrev pub nothing : Form (Unit {0})
nothing = record { Fits = λ _. Unit {0}; spell = λ _. []; read = λ p. Ok (tt, p) }
