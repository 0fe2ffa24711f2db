-- What an event does that is taken and kept at once.
use Rattle.std.specs.Prelude.{◌≡◌, ◌⊎◌, ℕ, ◌<◌, ◌^◌, List, Option, Some, None, Result, Ok, Err, IsSome}
use Rattle.kp_io.specs.Crash.{Past, HasRoom}
use Rattle.kp_io.specs.Faults.{Rose}
use Rattle.kp_io.specs.declared.disk.Disk.{Ghosts}
use Rattle.kp_raft.specs.declared.mail.Mail.{Mail}
use Rattle.kp_event.specs.declared.event.NodeEvent.{NodeEvent}
use Rattle.kp_event.specs.declared.thought.Thought.{Thought}
use Rattle.kp_event.specs.declared.fail.KeptFail.{KeptFail}
use Rattle.kp_event.specs.declared.fail.KeptFail.TheVariants as fail
use Rattle.kp_event.specs.declared.fail.Why.TheVariants as why
use Rattle.kp_snapshot.specs.Snapshots.{Snapshot}
use Rattle.kp_step.specs.Choices.{Choices}
use Rattle.kp_step.specs.Node.{Node}
use Rattle.kp_step.specs.Step.{step}
use Rattle.kp_homes.specs.Homes.{FindsEither, FindsOnly}
use Rattle.kp_homes.specs.Opening.{Found}
use Rattle.kp_node.specs.declared.outcome.Outcome.{Outcome}
use Rattle.kp_node.specs.Facts.{words}
use Rattle.kp_node.specs.Parts.{node_of}
use Rattle.kp_node.specs.Steps.{Steps, images}
use Rattle.kp_kept.specs.declared.kept.Kept.{Kept}
use Rattle.kp_kept.specs.Ahead.{nothing_waits, waits_behind, found_then}
use Rattle.kp_kept.specs.Keeping.{KeepsUp, OnlyWaits, waiting_of}
use Rattle.kp_kept.specs.Thinking.{Letter}

module _ {H : Type 0} {G : Ghosts H} where
  -- the event was taken, as a step of the definition by some choices, and what it wants kept waits behind what waited before
  pub record IsTaken (x : Kept H G) (e : NodeEvent (Mail Snapshot)) (y : Kept H G) : Type 0 where
    pub outcome : Outcome
    pub choices : Choices
    pub steps : Steps (step words images choices (node_of x.node) e) x.node y.node outcome
    pub waits : waiting_of y ≡ waits_behind (waiting_of x) outcome.records outcome.image

  -- nothing changed of the node and of what waits; or the event was taken and waits. Where nothing waited before, only one that makes an image the base of the log does
  abbrev pub StaysOrWaits : Kept H G → NodeEvent (Mail Snapshot) → Kept H G → Type 0
  StaysOrWaits x e y = ((y.node ≡ x.node) × (waiting_of y ≡ waiting_of x)) ⊎ ((t : IsTaken x e y) × (waiting_of x ≡ nothing_waits → IsSome t.outcome.image))

  module _ (faults : Kept H G → ℕ) where
    -- how an event ends that is taken and kept at once
    abbrev pub EventEnds : Kept H G → NodeEvent (Mail Snapshot) → Result (Thought Letter) KeptFail → Kept H G → Type 0
    EventEnds x e (Ok t) y = (x.death ≡ None) × (y.death ≡ None) × (y.kept ≡ t.number) × (waiting_of y ≡ nothing_waits) × (faults y ≡ faults x)
    EventEnds x e (Err fail.NoMemory) y = (x.death ≡ None) × (y.death ≡ None) × (y.kept ≡ x.kept) × (y.home ≡ x.home) × StaysOrWaits x e y
    EventEnds x e (Err fail.DiskFault) y = (x.death ≡ None) × (y.death ≡ Some (why.Disk (faults y))) × (y.kept ≡ x.kept) × Rose (faults x) (faults y) × IsTaken x e y
    EventEnds x e (Err (fail.Full slot len)) y = (x.death ≡ None) × (y.death ≡ Some (why.Full slot len)) × (y.kept ≡ x.kept) × (y.home ≡ x.home) × (2 ^ 40 < len) × IsTaken x e y
    EventEnds x e (Err (fail.Dead w)) y = (x.death ≡ Some w) × OnlyWaits x y × (waiting_of y ≡ waiting_of x)

  -- what opening finds once all is kept that waited, and behind it what this outcome wants kept
  abbrev pub found_with : Kept H G → Outcome → Found → Node → Found
  found_with x o f y = found_then (waits_behind (waiting_of x) o.records o.image) f y

  -- it is found on the home, and after each crash from now on; a crash since the call began leaves it, or what was found before
  pub record IsKeptWith (held : H → Option (List ℕ)) (past : H → Option Past) (x : Kept H G) (o : Outcome) (y : Kept H G) : Type 0 where
    pub keeps : (f : Found) → KeepsUp held past x f → HasRoom y.home.disks.moments → x.home.journal.head.generation < 2 ^ 62 → KeepsUp held past y (found_with x o f (node_of y.node))
    pub kept : (f : Found) → KeepsUp held past x f → HasRoom y.home.disks.moments → x.home.journal.head.generation < 2 ^ 62
        → FindsOnly y.home.journal.head.node past y.home.disks.moments y.home.disks (found_with x o f (node_of y.node))
    pub crash : (f : Found) → KeepsUp held past x f → HasRoom y.home.disks.moments → x.home.journal.head.generation < 2 ^ 62
        → FindsEither x.home.journal.head.node past x.home.disks.moments y.home.disks f (found_with x o f (node_of y.node))
