-- The calls of a node with its home are the tasks of a shared node.
use Rattle.std.proofs.Common.{◌≡◌, inl, inr, ℕ, ◌+◌, ◌<◌, ◌^◌, List, Option, Some, None, Result, Ok, Err, refl, sym, ap, ◌∙◌, subst}
use Rattle.std.specs.Prelude.{◌↔◌, IfOk, OnOk, OnErr, IsErrOf}
use Rattle.kp_io.specs.Crash.{Past, HasRoom}
use Rattle.kp_io.specs.declared.disk.Disk.{Ghosts}
use Rattle.kp_event.specs.declared.event.NodeEvent.{NodeEvent}
use Rattle.kp_event.specs.declared.thought.Thought.{Thought}
use Rattle.kp_event.specs.declared.fail.KeptFail.{KeptFail}
use Rattle.kp_event.specs.declared.fail.KeptFail.TheVariants as fail
use Rattle.kp_event.specs.declared.fail.Why.{Why}
use Rattle.kp_event.specs.declared.fail.Why.TheVariants as why
use Rattle.kp_event.specs.Kinds.{row_of_kind, row_of_said}
use Rattle.kp_raft.specs.declared.mail.Mail.{Mail}
use Rattle.kp_snapshot.specs.Snapshots.{Snapshot}
use Rattle.kp_homes.specs.declared.home.Home.{Home}
use Rattle.kp_homes.specs.Homes.{FindsEither, FindsOnly}
use Rattle.kp_homes.specs.Opening.{Found}
use Rattle.kp_io.specs.Homes.{home_faults}
use Rattle.kp_node.specs.declared.outcome.Outcome.{Outcome}
use Rattle.kp_node.specs.Parts.{Parts}
use Rattle.kp_kept.specs.declared.kept.Kept.{Kept}
use Rattle.kp_kept.specs.Ahead.{nothing_waits, waits_behind}
use Rattle.kp_kept.specs.Answers.{IsOfThink}
use Rattle.kp_kept.specs.Flushing as flushing
use Rattle.kp_kept.specs.Flushing.{faults_of}
use Rattle.kp_kept.specs.Keeping.{KeepsUp, found_behind, waiting_of}
use Rattle.kp_kept.specs.Thinking as thinking
use Rattle.kp_kept.specs.Thinking.{Letter}
use Rattle.kp_shared.specs.declared.kept.Life.{Life}
use Rattle.kp_shared.specs.TaskSteps.{Flushes, Thinks}
use Rattle.kp_served.specs.declared.home_node.HomeNode.{HomeNode}
use Rattle.kp_served.specs.HomeNodes.{NodeKeeps, NodeMoves, NodeStays, life_of, node_life}

life_same : (a b : Life) → b.death ≡ a.death → b.faults ≡ a.faults → b.thought ≡ a.thought → b.kept ≡ a.kept → b ≡ a
life_same a b d f t k = ap (λ (x : Option Why). record { death = x; faults = b.faults; thought = b.thought; kept = b.kept }) d
    ∙ ap (λ (x : ℕ). record { death = a.death; faults = x; thought = b.thought; kept = b.kept }) f
    ∙ ap (λ (x : ℕ). record { death = a.death; faults = a.faults; thought = x; kept = b.kept }) t
    ∙ ap (λ (x : ℕ). record { death = a.death; faults = a.faults; thought = a.thought; kept = x }) k

-- no cause of death is told
abbrev IsNoDeath : KeptFail → Type 0
IsNoDeath fail.NoMemory = Unit {0}
IsNoDeath fail.DiskFault = Unit {0}
IsNoDeath (fail.Full s n) = Unit {0}
IsNoDeath (fail.Dead w) = ⊥

abbrev IsNoDeathOf : {A : Type 0} → Result A KeptFail → Type 0
IsNoDeathOf (Ok a) = Unit {0}
IsNoDeathOf (Err f) = IsNoDeath f

-- a node that answers another refusal than its death isn't dead
lives_on : {A : Type 0} (d : Option Why) (r : Result A KeptFail) → IsNoDeathOf r → ((w : Why) → IsErrOf r (fail.Dead w) ↔ (d ≡ Some w)) → d ≡ None
lives_on None r other dead = refl
lives_on (Some w) r other dead = absurd (subst IsNoDeathOf ((dead w).1 refl) other)

abbrev IsNone : Option Why → Type 0
IsNone None = Unit {0}
IsNone (Some w) = ⊥

no_death : (n : ℕ) → None ≡ Some (why.Disk n) → ⊥
no_death n e = subst IsNone e tt

module _ {H : Type 0} {G : Ghosts H} (held : H → Option (List ℕ)) (past : H → Option Past) (faults : H → ℕ) where
  module _ (x y : HomeNode H G) where
    same_faults : y.kept.home ≡ x.kept.home → faults_of faults y.kept ≡ faults_of faults x.kept
    same_faults home = ap (λ (h : Home H). home_faults faults h.disks) home

    -- a call that leaves the home, the death and the number
    quiet_life : y.kept.home ≡ x.kept.home → y.kept.death ≡ x.kept.death → y.kept.kept ≡ x.kept.kept → y.kept.node ≡ x.kept.node → node_life faults y ≡ node_life faults x
    quiet_life home death kept node = life_same (node_life faults x) (node_life faults y) death (same_faults home) (ap (λ (p : Parts). p.events) node) kept

    pub thinks : (e : NodeEvent (Mail Snapshot)) (r : Result (Thought Letter) KeptFail)
        → IfOk r (λ t. (o : Outcome) × thinking.Moves x.kept.node e o t y.kept.node × (waiting_of y.kept ≡ waits_behind (waiting_of x.kept) o.records o.image))
        → OnOk r (x.kept.death ≡ None) → IfOk r (λ t. t.number ≡ x.kept.node.events + 1) → IfOk r (λ t. row_of_said t.said ≡ row_of_kind e.kind)
        → y.kept.home ≡ x.kept.home → y.kept.death ≡ x.kept.death → y.kept.kept ≡ x.kept.kept
        → OnErr r ((y.kept.node ≡ x.kept.node) × (waiting_of y.kept ≡ waiting_of x.kept))
        → ((w : Why) → IsErrOf r (fail.Dead w) ↔ (x.kept.death ≡ Some w)) → ((f : KeptFail) → IsErrOf r f → IsOfThink f)
        → ((f : Found) → KeepsUp held past x.kept f → KeepsUp held past y.kept f)
        → Thinks (NodeMoves held past) (NodeStays held past) (node_life faults) x e r y
    thinks e (Ok t) moves alive number fits home death kept same dead only keeps = (
      alive,
      record { outcome = moves.0; step = moves.1; waits = moves.2; home = home; keeps = keeps },
      fits,
      number,
      life_same record { death = x.kept.death; faults = faults_of faults x.kept; thought = x.kept.node.events + 1; kept = x.kept.kept } (node_life faults y) death (same_faults home) (sym moves.1.thought.number_is ∙ number) kept,
    )
    thinks e (Err fail.NoMemory) moves alive number fits home death kept same dead only keeps = (
      lives_on {A = Thought Letter} x.kept.death (Err fail.NoMemory) tt dead,
      record { node = same.0; home = inl (home, same.1) },
      quiet_life home death kept same.0,
    )
    thinks e (Err fail.DiskFault) moves alive number fits home death kept same dead only keeps = absurd (only fail.DiskFault refl)
    thinks e (Err (fail.Full s n)) moves alive number fits home death kept same dead only keeps = absurd (only (fail.Full s n) refl)
    thinks e (Err (fail.Dead w)) moves alive number fits home death kept same dead only keeps = (
      (dead w).0 refl,
      record { node = same.0; home = inl (home, same.1) },
      quiet_life home death kept same.0,
    )

    pub flushes : (r : Result ℕ KeptFail) → flushing.Flushes (faults_of faults) x.kept r y.kept
        → OnOk r (waiting_of y.kept ≡ nothing_waits) → OnErr r (waiting_of y.kept ≡ waiting_of x.kept)
        → ((f : Found) → KeepsUp held past x.kept f → HasRoom y.kept.home.disks.moments → x.kept.home.journal.head.generation < 2 ^ 62 → OnOk r (KeepsUp held past y.kept (found_behind x.kept f)))
        → ((f : Found) → KeepsUp held past x.kept f → HasRoom y.kept.home.disks.moments → x.kept.home.journal.head.generation < 2 ^ 62
        → OnOk r (FindsOnly y.kept.home.journal.head.node past y.kept.home.disks.moments y.kept.home.disks (found_behind x.kept f)))
        → ((f : Found) → KeepsUp held past x.kept f → HasRoom y.kept.home.disks.moments → x.kept.home.journal.head.generation < 2 ^ 62
        → FindsEither x.kept.home.journal.head.node past x.kept.home.disks.moments y.kept.home.disks f (found_behind x.kept f))
        → Flushes (NodeStays held past) (NodeKeeps held past) (node_life faults) x r y
    flushes (Ok n) put none all keeps kept crash = (
      put.0,
      record { node = put.1; home = inr record { leaves = λ f a. crash f a.keeps a.room a.young; holds = λ alive f a. keeps f a.keeps a.room a.young } },
      record { waits = none; keeps = λ f a. keeps f a.keeps a.room a.young; found = λ f a. kept f a.keeps a.room a.young },
      put.2,
      life_same record { death = x.kept.death; faults = faults_of faults x.kept; thought = x.kept.node.events; kept = x.kept.node.events } (node_life faults y) (put.4.0 ∙ sym put.0) put.4.1 (ap (λ (p : Parts). p.events) put.1) (put.3 ∙ put.2),
    )
    flushes (Err fail.NoMemory) put none all keeps kept crash = (
      put.0,
      record { node = put.1.node; home = inl (put.2.1, all) },
      quiet_life put.2.1 (put.2.0 ∙ sym put.0) put.1.kept put.1.node,
    )
    flushes (Err fail.DiskFault) put none all keeps kept crash = (
      put.0,
      record { node = put.1.node; home = inr record { leaves = λ f a. crash f a.keeps a.room a.young; holds = λ alive f a. absurd (no_death (faults_of faults y.kept) (sym alive ∙ put.2.0)) } },
      put.2.1,
      life_same record { death = y.kept.death; faults = faults_of faults y.kept; thought = x.kept.node.events; kept = x.kept.kept } (node_life faults y) refl refl (ap (λ (p : Parts). p.events) put.1.node) put.1.kept
          ∙ ap (λ (d : Option Why). record { death = d; faults = faults_of faults y.kept; thought = x.kept.node.events; kept = x.kept.kept }) put.2.0,
    )
    flushes (Err (fail.Full s n)) put none all keeps kept crash = (
      put.0,
      record { node = put.1.node; home = inl (put.2.1, all) },
      life_same record { death = y.kept.death; faults = faults_of faults x.kept; thought = x.kept.node.events; kept = x.kept.kept } (node_life faults y) refl (same_faults put.2.1) (ap (λ (p : Parts). p.events) put.1.node) put.1.kept
          ∙ ap (λ (d : Option Why). record { death = d; faults = faults_of faults x.kept; thought = x.kept.node.events; kept = x.kept.kept }) put.2.0,
    )
    flushes (Err (fail.Dead w)) put none all keeps kept crash = (
      put.0,
      record { node = ap (λ (k : Kept H G). k.node) put.1; home = inl (ap (λ (k : Kept H G). k.home) put.1, all) },
      ap (λ (k : Kept H G). life_of faults k) put.1,
    )
