-- What a line and a command may come to.
use Rattle.std.specs.Prelude.{ℕ, Bool, false, if◌then◌else◌, ◌≡◌, List, [], ◌∷◌, ◌++◌, Option, Some, None, ⊤}
use Rattle.std.specs.Str.{bytes_eq}
use Rattle.std.specs.Io.KnownBytes.{Keeps}
use Rattle.kp_top.specs.declared.status.Status.{Status}
use Rattle.kp_top.specs.declared.status.Status.TheVariants as status
use Rattle.kp_top.specs.declared.taken.Taken.{Taken}
use Rattle.kp_top.specs.declared.taken.Taken.TheVariants as taken
use Rattle.kp_text.specs.declared.line.StoreLine.{StoreLine}
use Rattle.kp_text.specs.Lines.{line_of}
use Rattle.kp_text.specs.Words.{number_of}
use Rattle.kp_top.specs.Transcript.{Work, turn}
use Rattle.kp_top.specs.Output.{WroteAll, WrotePart}
use lib.Chars.{codes}

-- what a line prints, with its line feed
abbrev pub printed_line : Work → ℕ → StoreLine → List ℕ
printed_line w n l = (turn w n l).text ++ 10 ∷ []

-- what came of the n-th line: it was done and printed; it is none; it was printed in part; or memory ran out before anything of it was printed
abbrev pub TakenAs : Work → Work → ℕ → List ℕ → Option (List ℕ) → Option (List ℕ) → Taken → Type 0
TakenAs w v n text old new taken.Printed = (l : StoreLine) × (line_of text ≡ Some l) × (v ≡ (turn w n l).work) × WroteAll old new (printed_line w n l)
TakenAs w v n text old new taken.Bad = (line_of text ≡ None) × Keeps old new
TakenAs w v n text old new taken.WriteFault = (l : StoreLine) × (line_of text ≡ Some l) × WrotePart old new (printed_line w n l)
TakenAs w v n text old new taken.NoMemory = Keeps old new

-- the words `store`
abbrev pub is_store_command : List (List ℕ) → Bool
is_store_command (w ∷ []) = bytes_eq w (codes "store")
is_store_command _ = false

-- the numbers of a load, where both words are such numbers
abbrev pub both : Option ℕ → Option ℕ → Option (ℕ × ℕ)
both (Some start) (Some count) = Some (start, count)
both _ _ = None

abbrev pub load_numbers : List ℕ → List ℕ → Option (ℕ × ℕ)
load_numbers start count = both (number_of 18446744073709551615 start) (number_of 1000000 count)

-- the words `load START COUNT`
abbrev pub load_command : List (List ℕ) → Option (ℕ × ℕ)
load_command (w ∷ start ∷ count ∷ []) = if bytes_eq w (codes "load") then load_numbers start count else None
load_command _ = None

-- the statuses that lines may come to
abbrev pub IsOfLines : Status → Type 0
IsOfLines status.Done = ⊤
IsOfLines (status.BadLine n) = ⊤
IsOfLines status.WriteFault = ⊤
IsOfLines status.NoMemory = ⊤
IsOfLines _ = ⊥

-- the statuses that a load may come to
abbrev pub IsOfLoad : Status → Type 0
IsOfLoad status.Done = ⊤
IsOfLoad status.WriteFault = ⊤
IsOfLoad status.NoMemory = ⊤
IsOfLoad _ = ⊥

-- the statuses that come only once the whole input was read
abbrev pub IsBehindInput : Status → Type 0
IsBehindInput status.Done = ⊤
IsBehindInput (status.BadLine n) = ⊤
IsBehindInput status.WriteFault = ⊤
IsBehindInput _ = ⊥

-- the statuses that come before anything is written
abbrev pub IsBeforeLines : Status → Type 0
IsBeforeLines status.Usage = ⊤
IsBeforeLines status.ReadFault = ⊤
IsBeforeLines status.TooLong = ⊤
IsBeforeLines status.DiskFault = ⊤
IsBeforeLines (status.Damaged slot at) = ⊤
IsBeforeLines _ = ⊥

-- the statuses of the store command
abbrev pub IsOfStore : Status → Type 0
IsOfStore status.DiskFault = ⊥
IsOfStore (status.Damaged slot at) = ⊥
IsOfStore status.NetFault = ⊥
IsOfStore (status.Full slot len) = ⊥
IsOfStore _ = ⊤

-- all was done, or memory ran out
abbrev pub IsDoneOrNoMemory : Status → Type 0
IsDoneOrNoMemory status.Done = ⊤
IsDoneOrNoMemory status.NoMemory = ⊤
IsDoneOrNoMemory _ = ⊥

-- line n was the first outside the grammar, or memory ran out
abbrev pub IsBadLineOrNoMemory : ℕ → Status → Type 0
IsBadLineOrNoMemory n (status.BadLine m) = m ≡ n
IsBadLineOrNoMemory n status.NoMemory = ⊤
IsBadLineOrNoMemory n _ = ⊥

-- the input was too long, or memory ran out
abbrev pub IsTooLongOrNoMemory : Status → Type 0
IsTooLongOrNoMemory status.TooLong = ⊤
IsTooLongOrNoMemory status.NoMemory = ⊤
IsTooLongOrNoMemory _ = ⊥

-- the number that the program ends with
abbrev pub code_of : Status → ℕ
code_of status.Done = 0
code_of status.Usage = 2
code_of (status.BadLine n) = 3
code_of status.ReadFault = 4
code_of status.WriteFault = 5
code_of status.NoMemory = 6
code_of status.DiskFault = 7
code_of (status.Damaged slot at) = 8
code_of status.NetFault = 9
code_of status.TooLong = 10
code_of (status.Full slot len) = 11
