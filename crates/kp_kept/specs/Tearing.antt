-- What a stop within a step leaves: the first of its records.
use Rattle.std.specs.Prelude.{◌≡◌, ◌⊎◌, ℕ, ◌<◌, ◌^◌, min, nat_lt, Bool, true, false, cond, not, List, [], length, take, Option, Some, None, is_none, Result, Ok, Err, IsSome}
use Rattle.kp_io.specs.Crash.{Past, HasRoom}
use Rattle.kp_io.specs.Faults.{Rose}
use Rattle.kp_io.specs.declared.disk.Disk.{Ghosts}
use Rattle.kp_entry.specs.declared.record.Record.{Record}
use Rattle.kp_raft.specs.declared.mail.Mail.{Mail}
use Rattle.kp_event.specs.declared.event.NodeEvent.{NodeEvent}
use Rattle.kp_event.specs.declared.fail.KeptFail.{KeptFail}
use Rattle.kp_event.specs.declared.fail.KeptFail.TheVariants as fail
use Rattle.kp_event.specs.declared.fail.Why.TheVariants as why
use Rattle.kp_event.specs.declared.said.FedWord.{FedWord}
use Rattle.kp_event.specs.declared.said.FedWord.TheVariants as fed
use Rattle.kp_event.specs.declared.said.Said.{Said}
use Rattle.kp_event.specs.declared.said.Said.TheVariants as says
use Rattle.kp_snapshot.specs.Snapshots.{Snapshot}
use Rattle.kp_step.specs.Choices.{Choices}
use Rattle.kp_step.specs.Node.{Node}
use Rattle.kp_step.specs.Step.{step}
use Rattle.kp_homes.specs.declared.home.Home.{Home}
use Rattle.kp_homes.specs.Homes.{FindsEither, FindsOnly}
use Rattle.kp_homes.specs.Opening.{Found, are_fit, started, with_records}
use Rattle.kp_node.specs.declared.outcome.Outcome.{Outcome}
use Rattle.kp_node.specs.Facts.{words}
use Rattle.kp_node.specs.Parts.{Parts, node_of}
use Rattle.kp_node.specs.Steps.{Steps, images}
use Rattle.kp_kept.specs.declared.kept.Kept.{Kept}
use Rattle.kp_kept.specs.declared.tearing.TornStep.{TornStep}
use Rattle.kp_kept.specs.Ahead.{IsBase, image_then, nothing_waits, own}
use Rattle.kp_kept.specs.Finding.{Has, LeavesEither}
use Rattle.kp_kept.specs.Keeping.{KeepsUp, OnlyWaits, waiting_of}
use Rattle.kp_kept.specs.Events.{IsTaken}

-- ---- an event that finds nothing to do

abbrev pub is_unknown : FedWord → Bool
is_unknown fed.Taken = false
is_unknown (fed.Bad at) = false
is_unknown fed.Unknown = true

-- there is no such connection, or no entry to apply
abbrev pub says_none : Said → Bool
says_none (says.Conn n) = false
says_none (says.Fed w) = is_unknown w
says_none (says.Hung b) = not b
says_none (says.Out p) = is_none p
says_none says.Raft = false
says_none (says.Beat n) = false
says_none (says.Done n) = is_none n
says_none (says.Expired n) = false
says_none (says.Snapped n) = false

-- ---- the first records of a step

-- the image that stands for the last of the first k records
abbrev pub part_image : ℕ → List Record → Option Snapshot → Option Snapshot
part_image k rs image = cond (nat_lt k (length rs)) None image

-- what opening finds where the first k records of a step are kept behind what it found before
abbrev pub torn_found : ℕ → Outcome → Found → Found
torn_found k o f = record { image = image_then f.image (part_image k o.records o.image); start = started f.start (take k o.records) }

-- the records may stand behind what is found; an image stands for the base of the node's log
abbrev pub part_fits : Option Snapshot → List Record → Found → Node → Type 0
part_fits None rs f x = are_fit f.start.held rs ≡ true
part_fits (Some i) rs f x = IsBase i x

-- what is found behind these records, or behind an image with the node's own log behind it
abbrev pub part_found : Option Snapshot → List Record → Found → Node → Found
part_found None rs f x = with_records rs f
part_found (Some i) rs f x = own (Some i) x

module _ {H : Type 0} (held : H → Option (List ℕ)) (past : H → Option Past) (old new : Home H) where
  -- each crash since the call began leaves what was found, or that with this part of a step
  abbrev pub LeavesPart : Option Snapshot → List Record → Node → Type 0
  LeavesPart image rs x = (f : Found) → Has held past old f → HasRoom new.disks.moments → old.journal.head.generation < 2 ^ 62 → part_fits image rs f x → LeavesEither held past old new f (part_found image rs f x)

  -- that is found
  abbrev pub HasPart : Option Snapshot → List Record → Node → Type 0
  HasPart image rs x = (f : Found) → Has held past old f → HasRoom new.disks.moments → old.journal.head.generation < 2 ^ 62 → part_fits image rs f x → Has held past new (part_found image rs f x)

-- this has what the outcome has, and the number of its first k records
pub record IsPart (o : Outcome) (k : ℕ) (t : TornStep) : Type 0 where
  pub said : t.said ≡ o.said
  pub cut : t.cut ≡ o.cut
  pub lost : t.lost ≡ o.lost
  pub kept : t.kept ≡ min k (length o.records)

-- an event that finds nothing to do wants nothing kept
pub record WantsNone (o : Outcome) : Type 0 where
  pub records : o.records ≡ []
  pub image : o.image ≡ None

module _ {H : Type 0} {G : Ghosts H} (faults : Home H → ℕ) where
  -- how the first records of a step are kept in this home of a node that took it, and that isn't dead
  abbrev pub PartEnds : {A : Type 0} → Home H → Option Snapshot → Result A KeptFail → Kept H G → Type 0
  PartEnds h image (Ok n) y = (y.death ≡ Some why.Torn) × (waiting_of y ≡ nothing_waits) × (faults y.home ≡ faults h)
  PartEnds h image (Err fail.NoMemory) y = (y.death ≡ None) × (y.home ≡ h) × IsSome image × (waiting_of y ≡ record { image = image; records = [] })
  PartEnds h image (Err fail.DiskFault) y = (y.death ≡ Some (why.Disk (faults y.home))) × Rose (faults h) (faults y.home)
  PartEnds h image (Err (fail.Full slot len)) y = (y.death ≡ Some (why.Full slot len)) × (y.home ≡ h) × (2 ^ 40 < len)
  PartEnds h image (Err (fail.Dead w)) y = ⊥

  -- the same where the event may have found nothing to do: that tears nothing
  abbrev pub TearEnds : Home H → Outcome → ℕ → Result TornStep KeptFail → Kept H G → Type 0
  TearEnds h o k (Ok t) y = (y.death ≡ cond (says_none o.said) None (Some why.Torn)) × (waiting_of y ≡ nothing_waits) × (faults y.home ≡ faults h) × (says_none o.said ≡ true → y.home ≡ h) × IsPart o k t
  TearEnds h o k (Err e) y = PartEnds {A = TornStep} h (part_image k o.records o.image) (Err e) y

module _ {H : Type 0} {G : Ghosts H} (faults : Kept H G → ℕ) where
  -- how a torn event ends
  abbrev pub TornEnds : Kept H G → NodeEvent (Mail Snapshot) → Result TornStep KeptFail → Kept H G → Type 0
  TornEnds x e (Ok t) y = (x.death ≡ None) × (y.death ≡ cond (says_none t.said) None (Some why.Torn)) × (waiting_of y ≡ nothing_waits) × (faults y ≡ faults x) × (says_none t.said ≡ true → y.home ≡ x.home)
  TornEnds x e (Err fail.NoMemory) y = (x.death ≡ None) × (y.death ≡ None) × (y.home ≡ x.home) × (((y.node ≡ x.node) × (waiting_of y ≡ waiting_of x)) ⊎ ((t : IsTaken x e y) × IsSome t.outcome.image))
  TornEnds x e (Err fail.DiskFault) y = (x.death ≡ None) × (y.death ≡ Some (why.Disk (faults y))) × Rose (faults x) (faults y)
  TornEnds x e (Err (fail.Full slot len)) y = (x.death ≡ None) × (y.death ≡ Some (why.Full slot len)) × (y.home ≡ x.home) × (2 ^ 40 < len)
  TornEnds x e (Err (fail.Dead w)) y = (x.death ≡ Some w) × OnlyWaits x y × (waiting_of y ≡ waiting_of x)

module _ {H : Type 0} {G : Ghosts H} (held : H → Option (List ℕ)) (past : H → Option Past) where
  -- the event is a step of the definition, by some choices, of which the first k records are kept: opening finds them behind what it found before
  pub record IsTorn (x : Kept H G) (e : NodeEvent (Mail Snapshot)) (k : ℕ) (t : TornStep) (y : Kept H G) : Type 0 where
    pub outcome : Outcome
    pub choices : Choices
    pub steps : Steps (step words images choices (node_of x.node) e) x.node y.node outcome
    pub part : IsPart outcome k t
    pub has : (f : Found) → KeepsUp held past x f → HasRoom y.home.disks.moments → x.home.journal.head.generation < 2 ^ 62 → Has held past y.home (torn_found k outcome f)
    pub kept : (f : Found) → KeepsUp held past x f → HasRoom y.home.disks.moments → x.home.journal.head.generation < 2 ^ 62
        → FindsOnly y.home.journal.head.node past y.home.disks.moments y.home.disks (torn_found k outcome f)
    pub crash : (f : Found) → KeepsUp held past x f → HasRoom y.home.disks.moments → x.home.journal.head.generation < 2 ^ 62
        → FindsEither x.home.journal.head.node past x.home.disks.moments y.home.disks f (torn_found k outcome f)

module _ {H : Type 0} {G : Ghosts H} where
  -- what is found behind a torn event that wasn't answered: what was found before, or that with the first k records of a step
  abbrev pub IsTornOrNot : Kept H G → NodeEvent (Mail Snapshot) → ℕ → Found → Found → Type 0
  IsTornOrNot x e k f g = (g ≡ f) ⊎ ((o : Outcome) × (ch : Choices) × (y : Parts) × Steps (step words images ch (node_of x.node) e) x.node y o × (g ≡ torn_found k o f))
