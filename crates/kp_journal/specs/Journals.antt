-- What the bytes of a journal stand for. The format is this project's own.
use Rattle.std.specs.Prelude.{◌≡◌, ◌⊎◌, ℕ, ◌+◌, cond, List, [], ◌∷◌, length, take, drop, Option, Some, None, Result, Ok, Err}
use Rattle.kp_jute.specs.declared.fault.JuteFail.{JuteFail}
use Rattle.kp_jute.specs.declared.fault.JuteFail.TheVariants as jute
use Rattle.kp_entry.specs.declared.record.Record.{Record}
use Rattle.kp_entry.specs.Records.{records, spelled}
use Rattle.kp_journal.specs.declared.fail.JournalFail.{JournalFail}
use Rattle.kp_journal.specs.declared.fail.JournalFail.TheVariants as fail
use Rattle.kp_journal.specs.declared.head.Head.{Head}
use Rattle.kp_journal.specs.Frames.{Run, no_run, then_run, Framed, frames}
use Rattle.kp_journal.specs.Gates.{opened, appended}
use Rattle.kp_journal.specs.Heads.{is_open, head_in, head_fault, headed}

-- a journal: its head, the records behind open gates, the place of each, and the place of the first gate that is not open
pub record Journaled : Type 0 where
  pub head : Head
  pub run : Run
  pub gate : ℕ

-- each refusal of a field makes the journal damaged at that field
abbrev pub fail_of : JuteFail → JournalFail
fail_of jute.NoMemory = fail.NoMemory
fail_of (jute.Short at) = fail.Damaged at
fail_of (jute.BadLength at) = fail.Damaged at
fail_of (jute.BadByte at) = fail.Damaged at

-- a journal with this head, and with what is framed behind it
abbrev pub behind_head : Head → Result Framed JuteFail → Result Journaled JournalFail
behind_head h (Ok f) = Ok (record { head = h; run = f.run; gate = f.gate })
behind_head h (Err e) = Err (fail_of e)

-- the same where no field of the head is refused
abbrev pub with_head : Option ℕ → Head → Result Framed JuteFail → Result Journaled JournalFail
with_head None h f = behind_head h f
with_head (Some at) h f = Err (fail.Damaged at)

-- what the bytes say of the home of this node, whatever the head's gate holds
unfoldable pub written : ℕ → List ℕ → Result Journaled JournalFail
written node xs = with_head (head_fault node (take 22 xs)) (head_in (take 22 xs)) (frames (length xs) 22 (drop 22 xs))

-- what the bytes stand for in the home of this node
abbrev pub journal_of : ℕ → List ℕ → Result Journaled JournalFail
journal_of node xs = cond (is_open xs) (written node xs) (Err fail.Closed)

-- ---- one batch more

-- the places of these records, which stand one behind the other from a place on
abbrev pub places_from : ℕ → List Record → List ℕ
places_from at [] = []
places_from at (r ∷ rs) = at ∷ places_from (at + length (records.spell r)) rs

abbrev pub run_of : ℕ → List Record → Run
run_of at rs = record { records = rs; places = places_from at rs }

-- the journal with a batch of these records more
abbrev pub with_batch : List Record → Journaled → Journaled
with_batch rs v = record { head = v.head; run = then_run v.run (run_of (v.gate + 5) rs); gate = v.gate + 5 + length (spelled rs) }

-- the bytes stand for this journal, or for it with a batch more
abbrev pub IsWithOrWithout : ℕ → Journaled → List Record → List ℕ → Type 0
IsWithOrWithout node v rs c = (journal_of node c ≡ Ok v) ⊎ (journal_of node c ≡ Ok (with_batch rs v))

-- the bytes are a journal of this one's node, whose batches end before the same gate
abbrev pub StandsFor : Journaled → List ℕ → Type 0
StandsFor j xs = (v : Journaled) × (journal_of j.head.node xs ≡ Ok v) × (v.gate ≡ j.gate)

-- the same journal, whose batches end before another gate; its records stay those that were found
abbrev pub up_to : ℕ → Journaled → Journaled
up_to gate j = record { head = j.head; run = j.run; gate = gate }

-- ---- a new journal

-- no records were read of it, and its batches end before this gate
abbrev pub unread : Head → ℕ → Journaled
unread h gate = record { head = h; run = no_run; gate = gate }

-- a journal with this head and one batch
abbrev pub new_journal : Head → List Record → Journaled
new_journal h rs = with_batch rs (unread h 22)

-- its bytes, over what stood there before
abbrev pub finished : Head → List Record → List ℕ → List ℕ
finished h rs xs = opened 0 (appended 22 (spelled rs) (headed h xs))
