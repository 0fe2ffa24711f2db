-- What a read that does not wait does to the bytes that are still to come (this project's own).
use Rattle.std.specs.Prelude.{ℕ, Bool, true, false, List, Option, Result, Ok, Err, take}
use Rattle.std.specs.Io.KnownBytes.{Consumes, IsAtEnd, Keeps}
use Rattle.std.specs.declared.io.ErrorKind.{ErrorKind}
use Rattle.std.specs.declared.io.ErrorKind.TheVariants as kind
use Rattle.kp_io.specs.declared.stream.Took.{Took}
use Rattle.kp_io.specs.declared.stream.Took.TheVariants as took

abbrev pub TookOf : Option (List ℕ) → Option (List ℕ) → Took → List ℕ → Type 0
TookOf old new (took.Bytes n) into = Consumes old new (take n into)
TookOf old new took.End into = Keeps old new × IsAtEnd new
TookOf old new took.Later into = Keeps old new

-- the bytes that were answered are the first of those that were to come, and the others are still to come; at the end none is
abbrev pub ReadsNow : {E : Type 0} → Option (List ℕ) → Option (List ℕ) → Result Took E → List ℕ → Type 0
ReadsNow old new (Ok t) into = TookOf old new t into
ReadsNow old new (Err e) into = Keeps old new

-- the call would have waited, or was cut off before it did anything
abbrev pub is_later_kind : ErrorKind → Bool
is_later_kind kind.WouldBlock = true
is_later_kind kind.Interrupted = true
is_later_kind _ = false
