-- What the calls answer.
use Rattle.std.specs.Prelude.{◌≡◌, ℕ, ◌+◌, ◌<◌, Bool, cond, nat_lt, nat_eq, List, [], ◌∷◌, length, take, drop, ◌≤◌, Option, Some, None, Result, Ok, Err}
use Rattle.kp_jute.specs.declared.fault.JuteFail.{JuteFail}
use Rattle.kp_jute.specs.declared.fault.JuteFail.TheVariants.{Short}
use Rattle.kp_jute.specs.Form.{Place, Fails, ◌>>=◌}
use Rattle.kp_entry.specs.declared.record.Record.{Record}
use Rattle.kp_journal.specs.declared.fail.JournalFail.{JournalFail}
use Rattle.kp_journal.specs.declared.fail.JournalFail.TheVariants.{DiskFault, Damaged, Full, Closed, NoMemory}
use Rattle.kp_journal.specs.declared.head.Head.{Head}
use Rattle.kp_journal.specs.Frames.{Run, one_at, then_run, with_run, run_at, Framed, behind, body_len}

-- the answer is this one, unless the disk failed or memory ran out
abbrev pub Tells : {A : Type 0} → Result A JournalFail → Result A JournalFail → Type 0
Tells (Ok x) is = is ≡ Ok x
Tells (Err DiskFault) is = Unit {0}
Tells (Err (Damaged at)) is = is ≡ Err (Damaged at)
Tells (Err (Full len)) is = ⊥
Tells (Err Closed) is = is ≡ Err Closed
Tells (Err NoMemory) is = Unit {0}

-- the head, or the place of the field that is refused
abbrev pub TellsHead : Result Head JournalFail → Option ℕ → Head → Type 0
TellsHead (Ok h) fault head = (fault ≡ None) × (h ≡ head)
TellsHead (Err e) fault head = (at : ℕ) × (fault ≡ Some at) × (e ≡ Damaged at)

-- ---- parts of a journal

-- the record that was read is added, or it is refused
abbrev pub ReadsOne : Result (Unit {0}) JuteFail → Run → Place → Result (Record × Place) JuteFail → Run → Place → Type 0
ReadsOne (Ok u) old p read new q = (r : Record) × (read ≡ Ok (r, q)) × (new ≡ then_run old (one_at p.at r)) × (length q.rest < length p.rest)
ReadsOne (Err e) old p read new q = Fails e read

-- the place behind the batch whose length is at the front; None where it is longer than what is left
abbrev pub batch_end : ℕ → List ℕ → Option ℕ
batch_end at rest = cond (nat_lt (length rest) (4 + body_len rest)) None (Some (at + (4 + body_len rest)))

-- the records of the batch whose length is at the front
abbrev pub batch_run : ℕ → List ℕ → Result Run JuteFail
batch_run at rest = cond (nat_lt (length rest) (4 + body_len rest)) (Err (Short at)) (run_at (at + 4) (take (body_len rest) (drop 4 rest)))

-- the records of the batch are added, or one of its fields is refused
abbrev pub ReadsBatch : Result ℕ JuteFail → Run → ℕ → List ℕ → Run → Type 0
ReadsBatch (Ok end) old at rest new = (end ≡ at + (4 + body_len rest)) × (4 + body_len rest ≤ length rest) × (with_run old (batch_run at rest) ≡ Ok new)
ReadsBatch (Err e) old at rest new = Fails e (with_run old (batch_run at rest))

-- whether the gate at the front is open, or that it is missing
abbrev pub TellsGate : Result Bool JuteFail → ℕ → List ℕ → Type 0
TellsGate r at [] = r ≡ Err (Short at)
TellsGate r at (g ∷ rest) = r ≡ Ok (nat_eq g 1)

-- the records so far, and what is framed behind them
abbrev pub with_framed : Run → Result Framed JuteFail → Result Framed JuteFail
with_framed run more = more >>= λ f. Ok (behind run f)

-- ---- the refusals of a call

-- a batch is refused for the disk, or since the journal would be too long
abbrev pub IsOfAppend : JournalFail → Type 0
IsOfAppend DiskFault = Unit {0}
IsOfAppend (Damaged at) = ⊥
IsOfAppend (Full len) = Unit {0}
IsOfAppend Closed = ⊥
IsOfAppend NoMemory = ⊥

-- a disk is not read for the disk itself, or for want of memory
abbrev pub IsOfReading : JournalFail → Type 0
IsOfReading DiskFault = Unit {0}
IsOfReading (Damaged at) = ⊥
IsOfReading (Full len) = ⊥
IsOfReading Closed = ⊥
IsOfReading NoMemory = Unit {0}
