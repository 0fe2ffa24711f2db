-- When a home may take more.
use Rattle.std.specs.Prelude.{◌≡◌, ℕ, Bool, true, false, List, Option, Some, None, Result, Ok, Err}
use Rattle.kp_journal.specs.declared.fail.JournalFail.{JournalFail}
use Rattle.kp_journal.specs.Journals.{Journaled, journal_of}

-- where the batches of a journal end
abbrev pub gate_in : Result Journaled JournalFail → Option ℕ
gate_in (Ok v) = Some v.gate
gate_in (Err e) = None

-- what the disk of the live slot's journal holds
abbrev pub live_of : Bool → Option (List ℕ) → Option (List ℕ) → Option (List ℕ)
live_of false j0 j1 = j0
live_of true j0 j1 = j1

-- the live journal is one of this node whose batches end here, where its disk tells what it holds
abbrev pub MayTake : Bool → Option (List ℕ) → Option (List ℕ) → ℕ → ℕ → Type 0
MayTake second j0 j1 node gate = (xs : List ℕ) → live_of second j0 j1 ≡ Some xs → gate_in (journal_of node xs) ≡ Some gate
