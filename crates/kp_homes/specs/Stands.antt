-- What the four disks of a home stand for, and what crashes leave it standing for (this project's own).
use Rattle.std.specs.Prelude.{◌≡◌, ◌⊎◌, ℕ, ◌+◌, ◌<◌, ◌^◌, min, nat_lt, Bool, true, false, cond, ◌&&◌, List, length, take, Option, Some, None, Result, Ok, Err, IfSome}
use Rattle.kp_io.specs.Crash.{Past, LeftAt, IsSettled}
use Rattle.kp_io.specs.declared.home.Four.{Four}
use Rattle.kp_entry.specs.declared.record.Record.{Record}
use Rattle.kp_journal.specs.declared.fail.JournalFail.{JournalFail}
use Rattle.kp_journal.specs.declared.fail.JournalFail.TheVariants as journal_fail
use Rattle.kp_journal.specs.declared.head.Head.{Head}
use Rattle.kp_journal.specs.Heads.{is_open, generation}
use Rattle.kp_journal.specs.Journals.{Journaled, journal_of, with_batch, new_journal, StandsFor}
use Rattle.kp_homes.specs.declared.fail.HomeFail.{HomeFail}
use Rattle.kp_homes.specs.declared.fail.HomeFail.TheVariants as home_fail

-- the bytes of the four disks
pub record Bytes4 : Type 0 where
  pub j0 : List ℕ
  pub j1 : List ℕ
  pub i0 : List ℕ
  pub i1 : List ℕ

-- the bytes of the image, none where there is no image, and the journal with the records behind it
pub record Stand : Type 0 where
  pub image : List ℕ
  pub journal : Journaled

-- the refusal of a journal as one of its slot
abbrev pub fail_in : ℕ → JournalFail → HomeFail
fail_in slot journal_fail.DiskFault = home_fail.DiskFault
fail_in slot (journal_fail.Damaged at) = home_fail.Damaged slot at
fail_in slot (journal_fail.Full len) = home_fail.Full slot len
fail_in slot journal_fail.Closed = home_fail.Damaged slot 0
fail_in slot journal_fail.NoMemory = home_fail.NoMemory

-- what a slot stands for. Its image's disk holds at least as many bytes as the head says; those behind are not looked at
abbrev pub slot_of : ℕ → Result Journaled JournalFail → List ℕ → Result Stand HomeFail
slot_of slot (Err e) image = Err (fail_in slot e)
slot_of slot (Ok j) image = cond (nat_lt (length image) j.head.image_len) (Err (home_fail.Damaged slot 14)) (Ok (record { image = take j.head.image_len image; journal = j }))

-- whether the second slot is the live one; None for a blank home
abbrev pub choice : List ℕ → List ℕ → Option Bool
choice a b = cond (is_open a) (Some (is_open b && nat_lt (generation a) (generation b))) (cond (is_open b) (Some true) None)

abbrev pub stands_by : ℕ → Option Bool → Bytes4 → Option (Result Stand HomeFail)
stands_by node None c = None
stands_by node (Some false) c = Some (slot_of 0 (journal_of node c.j0) c.i0)
stands_by node (Some true) c = Some (slot_of 1 (journal_of node c.j1) c.i1)

-- what the disks of this node's home stand for: what the live slot does; None for a blank home
abbrev pub stands : ℕ → Bytes4 → Option (Result Stand HomeFail)
stands node c = stands_by node (choice c.j0 c.j1) c

-- a batch of records more
abbrev pub with_more : List Record → Stand → Stand
with_more rs v = record { image = v.image; journal = with_batch rs v.journal }

-- the head of the slot that comes behind one with this head, for an image of this length. A generation of 2 ^ 62 stays
abbrev pub next_head : Head → ℕ → Head
next_head h len = record { generation = min (h.generation + 1) (2 ^ 62); node = h.node; image_len = len }

-- what a new slot with this head stands for
abbrev pub made : Head → List ℕ → List Record → Stand
made h image rs = record { image = image; journal = new_journal h rs }

-- ---- crashes of a home

-- a crash at number n may leave these bytes; never of a disk that does not tell
abbrev pub LeftIf : Option Past → ℕ → List ℕ → Type 0
LeftIf None n c = ⊥
LeftIf (Some p) n c = LeftAt p n c

-- a crash of a home is at one number for all four disks
pub record HomeLeft {H : Type 0} (past : H → Option Past) (home : Four H) (n : ℕ) (c : Bytes4) : Type 0 where
  pub on_j0 : LeftIf (past home.j0) n c.j0
  pub on_j1 : LeftIf (past home.j1) n c.j1
  pub on_i0 : LeftIf (past home.i0) n c.i0
  pub on_i1 : LeftIf (past home.i1) n c.i1

-- each crash since the count was m leaves bytes that stand for the one value or for the other
abbrev pub StandsForEither : {H : Type 0} → ℕ → (H → Option Past) → ℕ → Four H → Stand → Stand → Type 0
StandsForEither node past m home v w = (n : ℕ) (c : Bytes4) → m < n → HomeLeft past home n c → (stands node c ≡ Some (Ok v)) ⊎ (stands node c ≡ Some (Ok w))

-- each crash since the count was m leaves bytes that stand for this value
abbrev pub StandsForOnly : {H : Type 0} → ℕ → (H → Option Past) → ℕ → Four H → Stand → Type 0
StandsForOnly node past m home v = (n : ℕ) (c : Bytes4) → m < n → HomeLeft past home n c → stands node c ≡ Some (Ok v)

-- ---- a home at rest

-- a disk holds these bytes and tells so, and nothing is unsynced on it
pub record IsRest (m : ℕ) (xs : List ℕ) (held : Option (List ℕ)) (past : Option Past) : Type 0 where
  pub holds : held ≡ Some xs
  pub told : Past
  pub tells : past ≡ Some told
  pub rests : IsSettled m xs past

-- nothing is unsynced on any of the four disks
pub record IsAtRest {H : Type 0} (held : H → Option (List ℕ)) (past : H → Option Past) (home : Four H) (b : Bytes4) : Type 0 where
  pub at_j0 : IsRest home.moments b.j0 (held home.j0) (past home.j0)
  pub at_j1 : IsRest home.moments b.j1 (held home.j1) (past home.j1)
  pub at_i0 : IsRest home.moments b.i0 (held home.i0) (past home.i0)
  pub at_i1 : IsRest home.moments b.i1 (held home.i1) (past home.i1)

-- a home at rest, whose live slot and journal these are, stands for this value
pub record Stands {H : Type 0} (held : H → Option (List ℕ)) (past : H → Option Past) (home : Four H) (second : Bool) (j : Journaled) (b : Bytes4) (v : Stand) : Type 0 where
  pub rest : IsAtRest held past home b
  pub live : choice b.j0 b.j1 ≡ Some second
  pub value : stands j.head.node b ≡ Some (Ok v)
  pub head : v.journal.head ≡ j.head
  pub gate : v.journal.gate ≡ j.gate

-- the live journal is the one that this is, where its disk tells what it holds
abbrev pub IsReady : Bool → Option (List ℕ) → Option (List ℕ) → Journaled → Type 0
IsReady false j0 j1 j = IfSome j0 (StandsFor j)
IsReady true j0 j1 j = IfSome j1 (StandsFor j)

-- the number of the slot of a journal
abbrev pub slot_number : Bool → ℕ
slot_number false = 0
slot_number true = 1

-- an answer of a call that writes
abbrev pub IsOfWriting : HomeFail → Type 0
IsOfWriting home_fail.DiskFault = Unit {0}
IsOfWriting (home_fail.Damaged slot at) = ⊥
IsOfWriting (home_fail.Full slot len) = Unit {0}
IsOfWriting home_fail.NoMemory = ⊥
