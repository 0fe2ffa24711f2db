-- What a history of a node with its home leaves to be found (this project's own).
use Rattle.std.specs.Prelude.{ℕ, ◌<◌, ◌^◌, List, [], ◌∷◌, Option, Ok, Err, ⊤}
use Rattle.kp_io.specs.Crash.{Past, HasRoom}
use Rattle.kp_io.specs.declared.disk.Disk.{Ghosts}
use Rattle.kp_raft.specs.declared.mail.Mail.{Mail}
use Rattle.kp_snapshot.specs.Snapshots.{Snapshot}
use Rattle.kp_homes.specs.Homes.{FindsOnly}
use Rattle.kp_node.specs.Parts.{node_of}
use Rattle.kp_kept.specs.declared.kept.Kept.{Kept}
use Rattle.kp_kept.specs.Ahead.{own}
use Rattle.kp_kept.specs.Keeping.{KeepsUp}
use Rattle.kp_shared.specs.declared.task.Task.{Task}
use Rattle.kp_shared.specs.declared.task.Task.TheVariants as task
use Rattle.kp_shared.specs.declared.task.Answer.TheVariants as answer
use Rattle.kp_shared.specs.TaskSteps.{Answered}
use Rattle.kp_served.specs.declared.home_node.HomeNode.{HomeNode}

-- a task of a node, its answer, and the node behind it
abbrev pub Done : (H : Type 0) → Ghosts H → Type 0
Done H G = Task (Mail Snapshot) × Answered (Mail Snapshot) × HomeNode H G

module _ {H : Type 0} {G : Ghosts H} (held : H → Option (List ℕ)) (past : H → Option Past) where
  -- opening finds what the node is, behind some image, also after each crash from then on
  pub record IsFound (y : Kept H G) : Type 0 where
    pub image : Option Snapshot
    pub keeps : KeepsUp held past y (own image (node_of y.node))
    pub only : FindsOnly y.home.journal.head.node past y.home.disks.moments y.home.disks (own image (node_of y.node))

  -- so it is where the task is a flush that is Ok
  abbrev pub IsFoundAt : Task (Mail Snapshot) → Answered (Mail Snapshot) → Kept H G → Type 0
  IsFoundAt (task.Think e) a y = ⊤
  IsFoundAt task.Flush (Ok (answer.Kept n)) y = IsFound y
  IsFoundAt task.Flush (Ok (answer.Thought t)) y = ⊤
  IsFoundAt task.Flush (Err f) y = ⊤

  -- behind each flush of the history
  abbrev pub AllFound : List (Done H G) → Type 0
  AllFound [] = ⊤
  AllFound (p ∷ ps) = IsFoundAt p.0 p.1 p.2.kept × AllFound ps

-- no count of calls and no generation comes to its end
abbrev pub HaveRoom : {H : Type 0} {G : Ghosts H} → Kept H G → List (Done H G) → Type 0
HaveRoom x [] = ⊤
HaveRoom x (p ∷ ps) = HasRoom p.2.kept.home.disks.moments × (x.home.journal.head.generation < 2 ^ 62) × HaveRoom p.2.kept ps

-- the history of a node that is held by other values
abbrev pub bare : {H S : Type 0} {G : Ghosts H} → (S → HomeNode H G) → List (Task (Mail Snapshot) × Answered (Mail Snapshot) × S) → List (Done H G)
bare node [] = []
bare node (p ∷ ps) = (p.0, p.1, node p.2) ∷ bare node ps
