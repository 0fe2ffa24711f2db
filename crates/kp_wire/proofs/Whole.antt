-- What a call that reads a whole frame tells of it.
use Rattle.std.proofs.Common.{◌≡◌, ℕ, List, Result, Ok, Err, refl, sym, ap, ◌∙◌}
use Rattle.std.specs.Prelude.{IfOk}
use Rattle.kp_jute.specs.declared.fault.JuteFail.{JuteFail}
use Rattle.kp_jute.specs.declared.fault.JuteFail.TheVariants as jute
use Rattle.kp_jute.specs.Form.{Form, IsBytes, LawfulAtEnd, Answers, whole}
use Rattle.kp_jute.proofs.AtEnd.{is_found, whole_again}
use Rattle.kp_wire.specs.Common.{refused_as, Tells}

told_as : {A : Type 0} (w : Result A JuteFail) (r s : Result A JuteFail) → r ≡ s → Answers (λ v. v) w r → Tells (refused_as w) s
told_as (Ok x) r s is h = sym is ∙ h
told_as (Err jute.NoMemory) r s is h = tt
told_as {A} (Err (jute.Short at)) r s is h = ap (λ (x : Result A JuteFail). refused_as x) (sym is ∙ h)
told_as {A} (Err (jute.BadLength at)) r s is h = ap (λ (x : Result A JuteFail). refused_as x) (sym is ∙ h)
told_as {A} (Err (jute.BadByte at)) r s is h = ap (λ (x : Result A JuteFail). refused_as x) (sym is ∙ h)

-- which refusal it is
pub exact_in : {A : Type 0} (w r : Result A JuteFail) → Answers (λ v. v) w r → Tells (refused_as w) r
exact_in w r h = told_as w r r refl h

-- what is read is spelled so
pub found_in : {A : Type 0} (f : Form A) → LawfulAtEnd f → (bytes : List ℕ) → IsBytes bytes → (w : Result A JuteFail) → Answers (λ v. v) w (whole f bytes) → IfOk (refused_as w) (λ v. f.Fits v × (bytes ≡ f.spell v))
found_in f lf bytes fits (Ok v) h = is_found f lf (λ v. v) bytes (Ok v) fits h
found_in f lf bytes fits (Err e) h = tt

-- what is spelled so is read
pub only_in : {A : Type 0} (f : Form A) → LawfulAtEnd f → (bytes : List ℕ) (w : Result A JuteFail) → Answers (λ v. v) w (whole f bytes) → (v : A) → f.Fits v → bytes ≡ f.spell v → Tells (refused_as w) (Ok v)
only_in f lf bytes w h v fits is = told_as w (whole f bytes) (Ok v) (ap (λ (b : List ℕ). whole f b) is ∙ whole_again f lf v fits) h
