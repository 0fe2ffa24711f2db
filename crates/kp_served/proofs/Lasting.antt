-- What was flushed lasts.
use Rattle.std.proofs.Common.{◌≡◌, ℕ, ◌<◌, ◌^◌, List, [], ◌∷◌, Option, Some, None, Ok, Err, sym, ap, ◌∙◌, subst, ⊎_elim}
use Rattle.kp_turn.specs.History.{Runs}
use Rattle.kp_io.specs.Crash.{Past, HasRoom}
use Rattle.kp_io.specs.declared.disk.Disk.{Ghosts}
use Rattle.kp_event.specs.declared.fail.KeptFail.TheVariants as fail
use Rattle.kp_event.specs.declared.fail.Why.{Why}
use Rattle.kp_raft.specs.declared.mail.Mail.{Mail}
use Rattle.kp_snapshot.specs.Snapshots.{Snapshot}
use Rattle.kp_homes.specs.Homes.{FindsOnly}
use Rattle.kp_homes.specs.Opening.{Found}
use Rattle.kp_node.specs.Parts.{Parts, node_of}
use Rattle.kp_kept.specs.declared.kept.Kept.{Kept}
use Rattle.kp_kept.specs.Ahead.{image_then, own}
use Rattle.kp_kept.specs.Keeping.{KeepsUp, found_behind, waiting_of}
use Rattle.kp_kept.proofs.Thoughts.{keeps_still}
use Rattle.kp_shared.specs.declared.kept.Life.{Life}
use Rattle.kp_shared.specs.declared.task.Task.{Task}
use Rattle.kp_shared.specs.declared.task.Task.TheVariants as task
use Rattle.kp_shared.specs.declared.task.Answer.TheVariants as answer
use Rattle.kp_shared.specs.TaskLaws.{Histories}
use Rattle.kp_shared.specs.TaskSteps.{Answered, IsTaskStep}
use Rattle.kp_served.specs.declared.home_node.HomeNode.{HomeNode}
use Rattle.kp_served.specs.HomeNodes.{AtRest, NodeKeeps, NodeMoves, NodeStays, Stays, node_life}
use Rattle.kp_served.specs.HomeLaws.{AllFound, bare, HaveRoom, IsFoundAt}

abbrev IsNone : Option Why → Type 0
IsNone None = Unit {0}
IsNone (Some w) = ⊥

module _ {H : Type 0} {G : Ghosts H} (held : H → Option (List ℕ)) (past : H → Option Past) (faults : H → ℕ) where
  -- where the node is alive, what waits leads from what opening finds to what it is
  abbrev GoesOn : Kept H G → Type 0
  GoesOn x = x.death ≡ None → (f : Found) × KeepsUp held past x f

  -- a dead node stays dead
  stays_dead : (x y : Kept H G) (w : Why) → x.death ≡ Some w → y.death ≡ x.death → GoesOn y
  stays_dead x y w dead same alive = absurd (subst IsNone (sym alive ∙ same ∙ dead) tt)

  stays_on : (x y : Kept H G) → Stays held past x y → x.death ≡ None → HasRoom y.home.disks.moments → x.home.journal.head.generation < 2 ^ 62 → GoesOn x → GoesOn y
  stays_on x y s lives room young goes alive = let g = goes lives in ⊎_elim
      (λ same. (g.0, keeps_still held past x y g.0 same.0 s.node same.1 g.1))
      (λ w. (found_behind x g.0, w.holds alive g.0 record { keeps = g.1; room = room; young = young }))
      s.home

  -- one task
  step_lasts : (x : HomeNode H G) (t : Task (Mail Snapshot)) (a : Answered (Mail Snapshot)) (y : HomeNode H G)
      → IsTaskStep (NodeMoves {G = G} held past) (NodeStays {G = G} held past) (NodeKeeps {G = G} held past) (node_life {G = G} faults) x t a y
      → HasRoom y.kept.home.disks.moments → x.kept.home.journal.head.generation < 2 ^ 62 → GoesOn x.kept → GoesOn y.kept × IsFoundAt held past t a y.kept
  step_lasts x (task.Think e) (Ok (answer.Thought t)) y s room young goes = (λ alive. (let g = goes s.0 in (g.0, s.1.keeps g.0 g.1)), tt)
  step_lasts x (task.Think e) (Ok (answer.Kept n)) y s room young goes = absurd s
  step_lasts x (task.Think e) (Err fail.NoMemory) y s room young goes = (stays_on x.kept y.kept s.1 s.0 room young goes, tt)
  step_lasts x (task.Think e) (Err (fail.Dead w)) y s room young goes = (stays_dead x.kept y.kept w s.0 (ap (λ (l : Life). l.death) s.2), tt)
  step_lasts x (task.Think e) (Err fail.DiskFault) y s room young goes = absurd s
  step_lasts x (task.Think e) (Err (fail.Full k n)) y s room young goes = absurd s
  step_lasts x task.Flush (Ok (answer.Thought t)) y s room young goes = absurd s
  step_lasts x task.Flush (Ok (answer.Kept n)) y s room young goes =
      let g = goes s.0 in
      let rest : AtRest held past x.kept y.kept g.0 = record { keeps = g.1; room = room; young = young } in
      let image = image_then g.0.image (waiting_of x.kept).image in (
        (λ alive. (found_behind x.kept g.0, s.2.keeps g.0 rest)),
        record {
          image = image;
          keeps = subst (λ (p : Parts). KeepsUp held past y.kept (own image (node_of p))) (sym s.1.node) (s.2.keeps g.0 rest);
          only = subst (λ (p : Parts). FindsOnly y.kept.home.journal.head.node past y.kept.home.disks.moments y.kept.home.disks (own image (node_of p))) (sym s.1.node) (s.2.found g.0 rest);
        },
      )
  step_lasts x task.Flush (Err fail.NoMemory) y s room young goes = (stays_on x.kept y.kept s.1 s.0 room young goes, tt)
  step_lasts x task.Flush (Err fail.DiskFault) y s room young goes = (stays_on x.kept y.kept s.1 s.0 room young goes, tt)
  step_lasts x task.Flush (Err (fail.Full k n)) y s room young goes = (stays_on x.kept y.kept s.1 s.0 room young goes, tt)
  step_lasts x task.Flush (Err (fail.Dead w)) y s room young goes = (stays_dead x.kept y.kept w s.0 (ap (λ (l : Life). l.death) s.2), tt)

  -- all tasks
  lasts : Histories (NodeMoves {G = G} held past) (NodeStays {G = G} held past) (NodeKeeps {G = G} held past) (node_life {G = G} faults) (λ x ts. GoesOn x.kept → HaveRoom x.kept ts → AllFound held past ts)
  lasts x [] r goes room = tt
  lasts x (p ∷ ps) r goes room = let s = step_lasts x p.0 p.1 p.2 r.0 room.0 room.1 goes in (s.1, lasts p.2 ps r.1 s.0 room.2)

  pub flushed_lasts : Histories (NodeMoves {G = G} held past) (NodeStays {G = G} held past) (NodeKeeps {G = G} held past) (node_life {G = G} faults)
      (λ x ts. (f : Found) → KeepsUp held past x.kept f → HaveRoom x.kept ts → AllFound held past ts)
  flushed_lasts x ts r f k room = lasts x ts r (λ alive. (f, k)) room

  module _ {S : Type 0} (node : S → HomeNode H G) where
    bare_runs : (step : HomeNode H G → Task (Mail Snapshot) → Answered (Mail Snapshot) → HomeNode H G → Type 0) (x : S) (ts : List (Task (Mail Snapshot) × Answered (Mail Snapshot) × S))
        → Runs (λ y t a z. step (node y) t a (node z)) x ts → Runs step (node x) (bare node ts)
    bare_runs step x [] r = r
    bare_runs step x (p ∷ ps) r = (r.0, bare_runs step p.2 ps r.1)

    -- the same of a history of values that hold the node
    pub held_lasts : (x : S) (ts : List (Task (Mail Snapshot) × Answered (Mail Snapshot) × S))
        → Runs (λ y t a z. IsTaskStep (NodeMoves {G = G} held past) (NodeStays {G = G} held past) (NodeKeeps {G = G} held past) (node_life {G = G} faults) (node y) t a (node z)) x ts
        → (f : Found) → KeepsUp held past (node x).kept f → HaveRoom (node x).kept (bare node ts) → AllFound held past (bare node ts)
    held_lasts x ts r = flushed_lasts (node x) (bare node ts) (bare_runs (IsTaskStep (NodeMoves {G = G} held past) (NodeStays {G = G} held past) (NodeKeeps {G = G} held past) (node_life {G = G} faults)) x ts r)
