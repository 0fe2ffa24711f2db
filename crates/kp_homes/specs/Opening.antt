-- What opening a home finds, and what a server starts with (this project's own).
use Rattle.std.specs.Prelude.{◌≡◌, ℕ, ◌+◌, ◌^◌, ◌≤◌, ◌-◌, min, nat_lt, Bool, true, false, cond, ◌&&◌, List, [], ◌∷◌, length, take, drop, get_or, Option, Some, None, Result, Ok, Err}
use Rattle.kp_io.specs.Crash.{Past, MayLeave, AreUpTo, IsLeft}
use Rattle.kp_io.specs.declared.home.Four.{Four}
use Rattle.kp_model.specs.LogEntry.{LogEntry}
use Rattle.kp_jute.specs.declared.fault.JuteFail.{JuteFail}
use Rattle.kp_jute.specs.declared.fault.JuteFail.TheVariants as jute
use Rattle.kp_jute.specs.Form.{whole}
use Rattle.kp_entry.specs.declared.record.Record.{Record}
use Rattle.kp_entry.specs.declared.record.Record.TheVariants as record_
use Rattle.kp_entry.specs.Log.{Log, based_at, last_index, has_index}
use Rattle.kp_entry.specs.Held.{Held, replay_one, replay}
use Rattle.kp_journal.specs.Frames.{Run}
use Rattle.kp_journal.specs.declared.head.Head.{Head}
use Rattle.kp_snapshot.specs.Snapshots.{Snapshot, images}
use Rattle.kp_homes.specs.declared.fail.HomeFail.{HomeFail}
use Rattle.kp_homes.specs.declared.fail.HomeFail.TheVariants as home_fail
use Rattle.kp_homes.specs.Stands.{Bytes4, Stand, choice, stands, slot_number, HomeLeft}

-- ---- what records leave

-- how often a server was started, and what it keeps of its log
pub record Start : Type 0 where
  pub boot : ℕ
  pub held : Held

abbrev pub boot_by : ℕ → Record → ℕ
boot_by b (record_.Vote term vote) = b
boot_by b (record_.Boot boot) = boot
boot_by b (record_.Append entry) = b
boot_by b (record_.Truncate last) = b
boot_by b (record_.Base index term) = b

-- how often the server was started, after these records
abbrev pub boot_after : ℕ → List Record → ℕ
boot_after b [] = b
boot_after b (r ∷ rs) = boot_after (boot_by b r) rs

-- what these records leave of a start
abbrev pub started : Start → List Record → Start
started s rs = record { boot = boot_after s.boot rs; held = replay s.held rs }

-- a record may stand behind this log: no entry has an index above 2 ^ 62, a log is cut at an index of its own, and a base is no record of a journal
abbrev pub is_fit : Log → Record → Bool
is_fit l (record_.Vote term vote) = true
is_fit l (record_.Boot boot) = true
is_fit l (record_.Append entry) = nat_lt (last_index l) (2 ^ 62)
is_fit l (record_.Truncate last) = has_index l last
is_fit l (record_.Base index term) = false

-- each of the records may stand behind those before it
abbrev pub are_fit : Held → List Record → Bool
are_fit h [] = true
are_fit h (r ∷ rs) = is_fit h.log r && are_fit (replay_one h r) rs

-- where a record that begins at a place is refused: at its first byte, but a truncation at its number. The last place of a u64 stays
abbrev pub refused_at : ℕ → Record → ℕ
refused_at at (record_.Vote term vote) = at
refused_at at (record_.Boot boot) = at
refused_at at (record_.Append entry) = at
refused_at at (record_.Truncate last) = min (at + 1) (2 ^ 64 - 1)
refused_at at (record_.Base index term) = at

-- where the first of the records is refused that may not stand behind those before it; they begin at these places
abbrev pub misfit : Held → List Record → List ℕ → Option ℕ
misfit h [] ps = None
misfit h (r ∷ rs) ps = cond (is_fit h.log r) (misfit (replay_one h r) rs (drop 1 ps)) (Some (refused_at (get_or ps 0 0) r))

abbrev pub unless : {A : Type 0} → ℕ → Option ℕ → A → Result A HomeFail
unless slot None x = Ok x
unless slot (Some at) x = Err (home_fail.Damaged slot at)

-- what the records of a slot leave of a start, or where one of them is refused
unfoldable pub restarted : ℕ → Start → List Record → List ℕ → Result Start HomeFail
restarted slot s rs ps = unless slot (misfit s.held rs ps) (started s rs)

-- ---- what opening finds

-- an image, and what the records behind it leave
pub record Found : Type 0 where
  pub image : Option Snapshot
  pub start : Start

-- the log of an image, without entries
abbrev pub base_of : Option Snapshot → Log
base_of None = based_at 0 0
base_of (Some s) = based_at s.state.applied s.term

-- the index of an image, 0 without one, and the number of the entries behind it are at most 2 ^ 62 together
abbrev pub IsWithin : Option Snapshot → List LogEntry → Type 0
IsWithin image es = (base_of image).base + length es ≤ 2 ^ 62

-- a server that was never started
abbrev pub blank_start : Option Snapshot → Start
blank_start image = record { boot = 0; held = record { term = 0; vote = 0; log = base_of image } }

abbrev pub blank_found : Found
blank_found = record { image = None; start = blank_start None }

-- the refusals of the image of a slot
abbrev pub image_fail : ℕ → JuteFail → HomeFail
image_fail slot jute.NoMemory = home_fail.NoMemory
image_fail slot (jute.Short at) = home_fail.Damaged (slot + 2) at
image_fail slot (jute.BadLength at) = home_fail.Damaged (slot + 2) at
image_fail slot (jute.BadByte at) = home_fail.Damaged (slot + 2) at

abbrev pub image_read : ℕ → Result Snapshot JuteFail → Result (Option Snapshot) HomeFail
image_read slot (Ok s) = Ok (Some s)
image_read slot (Err e) = Err (image_fail slot e)

-- the image that these bytes of a slot are; none where there are none
unfoldable pub image_in : ℕ → List ℕ → Result (Option Snapshot) HomeFail
image_in slot [] = Ok None
image_in slot (b ∷ bytes) = image_read slot (whole images (b ∷ bytes))

-- the image of so many bytes on the disk of a slot
abbrev pub image_on : ℕ → ℕ → List ℕ → Result (Option Snapshot) HomeFail
image_on slot len ys = cond (nat_lt (length ys) len) (Err (home_fail.Damaged slot 14)) (image_in slot (take len ys))

abbrev pub with_start : Option Snapshot → Result Start HomeFail → Result Found HomeFail
with_start image (Ok s) = Ok (record { image = image; start = s })
with_start image (Err e) = Err e

-- the records of a slot replayed behind its image
abbrev pub behind_image : ℕ → Run → Result (Option Snapshot) HomeFail → Result Found HomeFail
behind_image slot run (Ok image) = with_start image (restarted slot (blank_start image) run.records run.places)
behind_image slot run (Err e) = Err e

-- what opening finds in a slot
abbrev pub found_in : ℕ → Result Stand HomeFail → Result Found HomeFail
found_in slot (Ok v) = behind_image slot v.journal.run (image_in slot v.image)
found_in slot (Err e) = Err e

-- the number of the live slot's journal
abbrev pub live_slot : Option Bool → ℕ
live_slot None = 0
live_slot (Some second) = slot_number second

abbrev pub found_by : ℕ → Option (Result Stand HomeFail) → Result Found HomeFail
found_by slot None = Ok blank_found
found_by slot (Some r) = found_in slot r

-- what opening finds on the disks of this node's home
unfoldable pub found : ℕ → Bytes4 → Result Found HomeFail
found node c = found_by (live_slot (choice c.j0 c.j1)) (stands node c)

-- ---- one start more

-- with these records more
abbrev pub with_records : List Record → Found → Found
with_records rs f = record { image = f.image; start = started f.start rs }

-- the number of the next start. 2 ^ 62 stays
abbrev pub next_boot : ℕ → ℕ
next_boot b = min (b + 1) (2 ^ 62)

-- with one start more
abbrev pub booted : Found → Found
booted f = with_records (record_.Boot (next_boot f.start.boot) ∷ []) f

-- ---- what the calls answer

-- the refusal of a call that uses no disk is this one, or memory ran out
abbrev pub Refuses : {B : Type 0} → HomeFail → Result B HomeFail → Type 0
Refuses home_fail.DiskFault is = ⊥
Refuses (home_fail.Damaged slot at) is = is ≡ Err (home_fail.Damaged slot at)
Refuses (home_fail.Full slot len) is = ⊥
Refuses home_fail.NoMemory is = Unit {0}

-- the answer, seen by view, is this one, unless memory ran out
abbrev pub Says : {A B : Type 0} → (A → B) → Result A HomeFail → Result B HomeFail → Type 0
Says view (Ok x) is = is ≡ Ok (view x)
Says view (Err e) is = Refuses e is

-- the refusal of a call that reads a disk is this one, or a disk failed, or memory ran out
abbrev pub Fails : {B : Type 0} → HomeFail → Result B HomeFail → Type 0
Fails home_fail.DiskFault is = Unit {0}
Fails (home_fail.Damaged slot at) is = is ≡ Err (home_fail.Damaged slot at)
Fails (home_fail.Full slot len) is = ⊥
Fails home_fail.NoMemory is = Unit {0}

-- the answer, seen by view, is this one, unless a disk failed or memory ran out
abbrev pub Finds : {A B : Type 0} → (A → B) → Result A HomeFail → Result B HomeFail → Type 0
Finds view (Ok x) is = is ≡ Ok (view x)
Finds view (Err e) is = Fails e is

-- one record was taken, or it is the one that is refused
abbrev pub Goes : Result (Unit {0}) HomeFail → Result Start HomeFail → Result Start HomeFail → Type 0
Goes (Ok u) is next = is ≡ next
Goes (Err e) is next = Refuses e is

-- ---- two heads

-- whether the second slot is the live one, by the generations of the open heads
abbrev pub chosen : Option ℕ → Option ℕ → Option Bool
chosen None None = None
chosen None (Some b) = Some true
chosen (Some a) None = Some false
chosen (Some a) (Some b) = Some (nat_lt a b)

-- ---- disks that are opened

-- the four disks tell what they hold
pub record Holds {H : Type 0} (held : H → Option (List ℕ)) (home : Four H) (b : Bytes4) : Type 0 where
  pub on_j0 : held home.j0 ≡ Some b.j0
  pub on_j1 : held home.j1 ≡ Some b.j1
  pub on_i0 : held home.i0 ≡ Some b.i0
  pub on_i1 : held home.i1 ≡ Some b.i1

-- a disk holds these bytes and tells so, and its calls are numbered up to m
pub record IsTold (m : ℕ) (xs : List ℕ) (held : Option (List ℕ)) (past : Option Past) : Type 0 where
  pub holds : held ≡ Some xs
  pub told : Past
  pub tells : past ≡ Some told
  pub up_to : AreUpTo m told.notes

-- the same of all four disks of a home
pub record AreTold {H : Type 0} (held : H → Option (List ℕ)) (past : H → Option Past) (home : Four H) (b : Bytes4) : Type 0 where
  pub on_j0 : IsTold home.moments b.j0 (held home.j0) (past home.j0)
  pub on_j1 : IsTold home.moments b.j1 (held home.j1) (past home.j1)
  pub on_i0 : IsTold home.moments b.i0 (held home.i0) (past home.i0)
  pub on_i1 : IsTold home.moments b.i1 (held home.i1) (past home.i1)

-- a crash now may leave these bytes
abbrev pub LeftNowIf : Option Past → List ℕ → Type 0
LeftNowIf None c = ⊥
LeftNowIf (Some p) c = MayLeave p.now c

pub record LeftNow {H : Type 0} (past : H → Option Past) (home : Four H) (c : Bytes4) : Type 0 where
  pub on_j0 : LeftNowIf (past home.j0) c.j0
  pub on_j1 : LeftNowIf (past home.j1) c.j1
  pub on_i0 : LeftNowIf (past home.i0) c.i0
  pub on_i1 : LeftNowIf (past home.i1) c.i1

-- a disk tells its calls, which are numbered up to m, and what it holds, where it tells that, is something that a crash now may leave
pub record IsSound (m : ℕ) (held : Option (List ℕ)) (past : Option Past) : Type 0 where
  pub told : Past
  pub tells : past ≡ Some told
  pub up_to : AreUpTo m told.notes
  pub left : IsLeft past held

-- the same of all four disks of a home
pub record AreSound {H : Type 0} (held : H → Option (List ℕ)) (past : H → Option Past) (home : Four H) : Type 0 where
  pub on_j0 : IsSound home.moments (held home.j0) (past home.j0)
  pub on_j1 : IsSound home.moments (held home.j1) (past home.j1)
  pub on_i0 : IsSound home.moments (held home.i0) (past home.i0)
  pub on_i1 : IsSound home.moments (held home.i1) (past home.i1)

-- what a crash up to the count of the first home leaves of the second one it leaves of the first
abbrev pub IsEarlier : {H : Type 0} → (H → Option Past) → Four H → Four H → Type 0
IsEarlier past old new = (n : ℕ) (c : Bytes4) → n ≤ old.moments → HomeLeft past new n c → HomeLeft past old n c

-- what is held stays
pub record IsHeld {H : Type 0} (held : H → Option (List ℕ)) (old new : Four H) : Type 0 where
  pub j0 : held new.j0 ≡ held old.j0
  pub j1 : held new.j1 ≡ held old.j1
  pub i0 : held new.i0 ≡ held old.i0
  pub i1 : held new.i1 ≡ held old.i1

-- ---- the first slot of a blank home

abbrev pub first_head : ℕ → Head
first_head node = record { generation = 1; node = node; image_len = 0 }

abbrev pub first_records : List Record
first_records = record_.Vote 0 0 ∷ record_.Boot 1 ∷ []
