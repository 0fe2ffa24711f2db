-- What the calls answer.
use Rattle.std.specs.Prelude.{◌≡◌, ℕ, List, ◌++◌, length, Result, Ok, Err}
use Rattle.kp_jute.specs.declared.fault.JuteFail.{JuteFail}
use Rattle.kp_jute.specs.declared.fault.JuteFail.TheVariants as jute
use Rattle.kp_jute.specs.Form.{Place, Form}
use Rattle.kp_model.specs.LogEntry.{LogEntry}
use Rattle.kp_entry.specs.declared.fail.EntryFail.{EntryFail}
use Rattle.kp_entry.specs.declared.fail.EntryFail.TheVariants as fail

-- each refusal of a field makes the entry bad at that field
abbrev pub fail_of : JuteFail → EntryFail
fail_of jute.NoMemory = fail.NoMemory
fail_of (jute.Short at) = fail.BadEntry at
fail_of (jute.BadLength at) = fail.BadEntry at
fail_of (jute.BadByte at) = fail.BadEntry at

-- the field that begins at this place is refused
abbrev pub IsRefusedAt : {A : Type 0} → ℕ → Result A JuteFail → Type 0
IsRefusedAt at (Ok x) = ⊥
IsRefusedAt at (Err e) = fail_of e ≡ fail.BadEntry at

-- the answer is what reading gives: the entry and how many bytes it takes, or where it is bad; memory may run out
abbrev pub Decodes : Result (LogEntry × ℕ) EntryFail → Result (LogEntry × Place) JuteFail → Type 0
Decodes (Ok d) read = (q : Place) × (read ≡ Ok (d.0, q)) × (q.at ≡ d.1)
Decodes (Err fail.NoMemory) read = Unit {0}
Decodes (Err (fail.BadEntry at)) read = IsRefusedAt at read

-- the bytes begin with the value's spelling, which has n bytes
pub record BeginsWith {A : Type 0} (f : Form A) (bytes : List ℕ) (v : A) (n : ℕ) : Type 0 where
  pub fits : f.Fits v
  pub more : List ℕ
  pub parts : bytes ≡ f.spell v ++ more
  pub len : n ≡ length (f.spell v)

-- the answer is this entry of n bytes, unless memory ran out
abbrev pub IsEntryOf : LogEntry → ℕ → Result (LogEntry × ℕ) EntryFail → Type 0
IsEntryOf e n (Ok d) = (d.0 ≡ e) × (d.1 ≡ n)
IsEntryOf e n (Err fail.NoMemory) = Unit {0}
IsEntryOf e n (Err (fail.BadEntry at)) = ⊥
