-- Readings that are the same: a form is lawful with one where it is with the other.
use Rattle.std.proofs.Common.{◌≡◌, ◌++◌, Result, Ok, Err, refl, sym, ◌∙◌}
use Rattle.kp_jute.specs.declared.fault.JuteFail.{JuteFail}
use Rattle.kp_jute.specs.Form.{Form, Place, Reading, ◌>>=◌, Lawful, LawfulAtEnd, front}

pub bind_assoc : {A B C : Type 0} (r : Result A JuteFail) (f : A → Result B JuteFail) (g : B → Result C JuteFail) → ((r >>= f) >>= g) ≡ (r >>= λ x. f x >>= g)
bind_assoc (Ok x) f g = refl
bind_assoc (Err e) f g = refl

pub bind_same : {A B : Type 0} (r : Result A JuteFail) (f g : A → Result B JuteFail) → ((x : A) → f x ≡ g x) → (r >>= f) ≡ (r >>= g)
bind_same (Ok x) f g h = h x
bind_same (Err e) f g h = refl

abbrev read_by : {A : Type 0} → Form A → Reading A → Form A
read_by f read = record { Fits = f.Fits; spell = f.spell; read = read }

pub same_lawful : {A : Type 0} (f : Form A) (read : Reading A) → ((p : Place) → f.read p ≡ read p) → Lawful f → Lawful (read_by f read)
same_lawful f read same lf = record {
  takes = λ p v q fits e. lf.takes p v q fits (same p ∙ e);
  again = λ v at rest fits. sym (same (front at (f.spell v ++ rest))) ∙ lf.again v at rest fits;
}

pub same_at_end : {A : Type 0} (f : Form A) (read : Reading A) → ((p : Place) → f.read p ≡ read p) → LawfulAtEnd f → LawfulAtEnd (read_by f read)
same_at_end f read same lf = record {
  takes = λ p v q fits e. lf.takes p v q fits (same p ∙ e);
  again = λ v at fits. sym (same (front at (f.spell v))) ∙ lf.again v at fits;
}
