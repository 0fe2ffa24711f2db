-- What is read of a home.
use Rattle.std.specs.Prelude.{◌≡◌, ℕ, Option, Some, None, Result, Ok, Err, List}
use Rattle.kp_io.specs.Crash.{Past}
use Rattle.kp_io.specs.declared.home.Four.{Four}
use Rattle.kp_journal.specs.declared.fail.JournalFail.{JournalFail}
use Rattle.kp_journal.specs.Answers.{Tells}
use Rattle.kp_journal.specs.Journals.{Journaled}
use Rattle.kp_homes.specs.declared.fail.HomeFail.{HomeFail}
use Rattle.kp_homes.specs.declared.reading.Live.{Live}
use Rattle.kp_homes.specs.Stands.{Bytes4, Stand, choice, stands, fail_in}
use Rattle.kp_homes.specs.Opening.{Found, blank_found}

-- what opening finds in the live slot
abbrev pub found_of : Live → Found
found_of l = record { image = l.image; start = l.replay }

-- the same of a home, which is blank where none is live
abbrev pub seen : Option Live → Found
seen None = blank_found
seen (Some l) = found_of l

-- a slot stands for a value with this journal
abbrev pub HasJournal : Result Stand HomeFail → Journaled → Type 0
HasJournal r j = (v : Stand) × (r ≡ Ok v) × (v.journal ≡ j)

-- this was read of the live slot of these disks
abbrev pub IsLive : ℕ → Bytes4 → Option Live → Type 0
IsLive node b None = choice b.j0 b.j1 ≡ None
IsLive node b (Some l) = (choice b.j0 b.j1 ≡ Some l.second) × ((v : Stand) × (stands node b ≡ Some (Ok v)) × (v.journal ≡ l.journal))

-- the disks hold and tell what they did
pub record IsUntouched {H : Type 0} (held : H → Option (List ℕ)) (past : H → Option Past) (old new : Four H) : Type 0 where
  pub held_j0 : held new.j0 ≡ held old.j0
  pub held_j1 : held new.j1 ≡ held old.j1
  pub held_i0 : held new.i0 ≡ held old.i0
  pub held_i1 : held new.i1 ≡ held old.i1
  pub past_j0 : past new.j0 ≡ past old.j0
  pub past_j1 : past new.j1 ≡ past old.j1
  pub past_i0 : past new.i0 ≡ past old.i0
  pub past_i1 : past new.i1 ≡ past old.i1

-- the journal of a slot was read, or is refused
abbrev pub ReadsJournal : ℕ → Result Journaled HomeFail → Result Journaled JournalFail → Type 0
ReadsJournal slot (Ok j) is = is ≡ Ok j
ReadsJournal slot (Err e) is = (f : JournalFail) × Tells {A = Journaled} (Err f) is × (e ≡ fail_in slot f)

abbrev pub some_live : Result Live HomeFail → Result (Option Live) HomeFail
some_live (Ok l) = Ok (Some l)
some_live (Err e) = Err e
