-- What the tasks of workers do to a node with its home (this project's own).
use Rattle.std.specs.Prelude.{◌≡◌, ◌⊎◌, ℕ, ◌<◌, ◌^◌, Bool, true, false, List, Option, None}
use Rattle.kp_io.specs.Crash.{Past, HasRoom}
use Rattle.kp_io.specs.declared.disk.Disk.{Ghosts}
use Rattle.kp_event.specs.declared.event.NodeEvent.{NodeEvent}
use Rattle.kp_event.specs.declared.thought.Thought.{Thought}
use Rattle.kp_raft.specs.declared.mail.Mail.{Mail}
use Rattle.kp_raft.specs.declared.mail.Mail.TheVariants as mail
use Rattle.kp_snapshot.specs.Snapshots.{Snapshot}
use Rattle.kp_homes.specs.Opening.{Found}
use Rattle.kp_homes.specs.Homes.{FindsEither, FindsOnly}
use Rattle.kp_node.specs.declared.outcome.Outcome.{Outcome}
use Rattle.kp_kept.specs.declared.kept.Kept.{Kept}
use Rattle.kp_kept.specs.Ahead.{nothing_waits, waits_behind}
use Rattle.kp_kept.specs.Flushing.{faults_of}
use Rattle.kp_kept.specs.Keeping.{KeepsUp, found_behind, waiting_of}
use Rattle.kp_kept.specs.Thinking as thinking
use Rattle.kp_kept.specs.Thinking.{Letter}
use Rattle.kp_shared.specs.declared.kept.Life.{Life}
use Rattle.kp_served.specs.declared.home_node.HomeNode.{HomeNode}

-- by these a leader feeds a follower's log
abbrev pub is_feed : Mail Snapshot → Bool
is_feed (mail.Append m) = true
is_feed (mail.Install t f i j x) = true
is_feed (mail.VoteReq t f l m) = false
is_feed (mail.VoteRep t f y) = false
is_feed (mail.AppendRep t f o l h) = false
is_feed (mail.InstallRep t f i) = false
is_feed (mail.Forward t f b) = false

module _ {H : Type 0} {G : Ghosts H} where
  -- how far the node is
  abbrev pub life_of : (H → ℕ) → Kept H G → Life
  life_of faults k = record { death = k.death; faults = faults_of faults k; thought = k.node.events; kept = k.kept }

module _ {H : Type 0} {G : Ghosts H} (held : H → Option (List ℕ)) (past : H → Option Past) where
  -- The event is a step of the definition, which gives this thought. What the step wants kept stands behind what waits, the home
  -- is as it was, and what waits still leads from what opening finds on it to what the node is.
  pub record Moves (x : Kept H G) (e : NodeEvent (Mail Snapshot)) (t : Thought Letter) (y : Kept H G) : Type 0 where
    pub outcome : Outcome
    pub step : thinking.Moves x.node e outcome t y.node
    pub waits : waiting_of y ≡ waits_behind (waiting_of x) outcome.records outcome.image
    pub home : y.home ≡ x.home
    pub keeps : (f : Found) → KeepsUp held past x f → KeepsUp held past y f

  -- the home is at rest, opening finds this on it, and no count is at its end
  pub record AtRest (x y : Kept H G) (f : Found) : Type 0 where
    pub keeps : KeepsUp held past x f
    pub room : HasRoom y.home.disks.moments
    pub young : x.home.journal.head.generation < 2 ^ 62

  -- each crash since then leaves a home on which opening finds what it found before, or what the node is
  abbrev pub LeavesEither : Kept H G → Kept H G → Type 0
  LeavesEither x y = (f : Found) → AtRest x y f → FindsEither x.home.journal.head.node past x.home.disks.moments y.home.disks f (found_behind x f)

  -- the home was written: a crash since then leaves the one or the other, and where the node lives on opening finds what it is
  pub record Writes (x y : Kept H G) : Type 0 where
    pub leaves : LeavesEither x y
    pub holds : y.death ≡ None → (f : Found) → AtRest x y f → KeepsUp held past y (found_behind x f)

  -- the node is as it was. So are its home and what waits, or the home was written
  pub record Stays (x y : Kept H G) : Type 0 where
    pub node : y.node ≡ x.node
    pub home : ((y.home ≡ x.home) × (waiting_of y ≡ waiting_of x)) ⊎ Writes x y

  -- nothing waits, and opening finds what the node is, also after each crash
  pub record Keeps (x y : Kept H G) : Type 0 where
    pub waits : waiting_of y ≡ nothing_waits
    pub keeps : (f : Found) → AtRest x y f → KeepsUp held past y (found_behind x f)
    pub found : (f : Found) → AtRest x y f → FindsOnly y.home.journal.head.node past y.home.disks.moments y.home.disks (found_behind x f)

-- ---- the same of the value that takes tasks

module _ {H : Type 0} {G : Ghosts H} where
  abbrev pub node_life : (H → ℕ) → HomeNode H G → Life
  node_life faults x = life_of faults x.kept

module _ {H : Type 0} {G : Ghosts H} (held : H → Option (List ℕ)) (past : H → Option Past) where
  abbrev pub NodeMoves : HomeNode H G → NodeEvent (Mail Snapshot) → Thought Letter → HomeNode H G → Type 0
  NodeMoves x e t y = Moves held past x.kept e t y.kept

  abbrev pub NodeStays : HomeNode H G → HomeNode H G → Type 0
  NodeStays x y = Stays held past x.kept y.kept

  abbrev pub NodeKeeps : HomeNode H G → HomeNode H G → Type 0
  NodeKeeps x y = Keeps held past x.kept y.kept
