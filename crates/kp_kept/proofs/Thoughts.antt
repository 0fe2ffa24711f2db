-- A thought leaves a node ahead of its home.
use Rattle.std.proofs.Common.{◌≡◌, ℕ, List, Option, Result, Ok, Err, ap, sym, subst, ◌∙◌}
use Rattle.std.specs.Prelude.{IfOk}
use Rattle.kp_io.specs.Crash.{Past}
use Rattle.kp_io.specs.declared.disk.Disk.{Ghosts}
use Rattle.kp_entry.specs.declared.record.Record.{Record}
use Rattle.kp_raft.specs.declared.mail.Mail.{Mail}
use Rattle.kp_event.specs.declared.event.NodeEvent.{NodeEvent}
use Rattle.kp_event.specs.declared.said.Said.{Said}
use Rattle.kp_event.specs.declared.thought.Thought.{Thought}
use Rattle.kp_event.specs.declared.fail.KeptFail.{KeptFail}
use Rattle.kp_event.specs.Kinds.{row_of_kind, row_of_said}
use Rattle.kp_snapshot.specs.Snapshots.{Snapshot}
use Rattle.kp_homes.specs.declared.home.Home.{Home}
use Rattle.kp_homes.specs.Homes as homes
use Rattle.kp_homes.specs.Opening.{Found}
use Rattle.kp_node.specs.declared.outcome.Outcome.{Outcome}
use Rattle.kp_node.specs.Parts.{Parts, node_of}
use Rattle.kp_kept.specs.declared.kept.Kept.{Kept}
use Rattle.kp_kept.specs.Ahead.{Waiting, IsAhead, waits_behind}
use Rattle.kp_kept.specs.Keeping.{KeepsUp, waiting_of}
use Rattle.kp_kept.specs.Thinking.{Letter, Moves}
use Rattle.kp_kept.proofs.Stepped.{says_so}
use Rattle.kp_kept.proofs.Waits.{Leads, ahead_goes_on}

pub keeps_on : {H : Type 0} {G : Ghosts H} (held : H → Option (List ℕ)) (past : H → Option Past) (x z : Kept H G) (y : Parts) (rs : List Record) (image : Option Snapshot) (f : Found)
    → z.home ≡ x.home → z.node ≡ y → waiting_of z ≡ waits_behind (waiting_of x) rs image → Leads rs image (node_of x.node) (node_of y) → KeepsUp held past x f → KeepsUp held past z f
keeps_on {H} held past x z y rs image f home node waits leads k = record {
  keeps = subst (λ (h : Home H). homes.Keeps held past h.disks h.second h.journal f) (sym home) k.keeps;
  ahead = subst (λ (w : Waiting). IsAhead w f (node_of z.node)) (sym waits)
      (subst (λ (p : Parts). IsAhead (waits_behind (waiting_of x) rs image) f (node_of p)) (sym node) (ahead_goes_on (waiting_of x) rs image f (node_of x.node) (node_of y) leads k.ahead));
}

-- nothing but room was made
pub keeps_still : {H : Type 0} {G : Ghosts H} (held : H → Option (List ℕ)) (past : H → Option Past) (x z : Kept H G) (f : Found) → z.home ≡ x.home → z.node ≡ x.node → waiting_of z ≡ waiting_of x → KeepsUp held past x f → KeepsUp held past z f
keeps_still {H} held past x z f home node waits k = record {
  keeps = subst (λ (h : Home H). homes.Keeps held past h.disks h.second h.journal f) (sym home) k.keeps;
  ahead = subst (λ (w : Waiting). IsAhead w f (node_of z.node)) (sym waits) (subst (λ (p : Parts). IsAhead (waiting_of x) f (node_of p)) (sym node) k.ahead);
}

pub thought_fits : {H : Type 0} {G : Ghosts H} (x y : Kept H G) (e : NodeEvent (Mail Snapshot)) (r : Result (Thought Letter) KeptFail)
    → IfOk r (λ t. (o : Outcome) × Moves x.node e o t y.node × (waiting_of y ≡ waits_behind (waiting_of x) o.records o.image)) → IfOk r (λ t. row_of_said t.said ≡ row_of_kind e.kind)
thought_fits x y e (Ok t) h = let m = h.1 in ap (λ (s : Said). row_of_said s) m.thought.said ∙ says_so m.choices x.node y.node e h.0 m.steps
thought_fits x y e (Err f) h = tt
