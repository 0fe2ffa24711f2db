-- What a step says belongs to its event, and no step counts a start.
use Rattle.std.proofs.Common.{◌≡◌, ℕ, List, Option, Some, None, refl}
use Rattle.std.specs.FinMap as map
use Rattle.kp_model.specs.LogEntry.{LogEntry}
use Rattle.kp_raft.specs.declared.mail.Mail.{Mail}
use Rattle.kp_raft.specs.Parts.{Outcome}
use Rattle.kp_event.specs.declared.event.NodeEventKind.{NodeEventKind}
use Rattle.kp_event.specs.declared.event.NodeEventKind.TheVariants as kind
use Rattle.kp_event.specs.Kinds.{row_of_kind, row_of_said}
use Rattle.kp_conn.specs.declared.phase.Phase.{Phase}
use Rattle.kp_conn.specs.declared.phase.Phase.TheVariants as phase
use Rattle.kp_conn.specs.Connection.{is_over}
use Rattle.kp_step.specs.declared.seat.Seat.{Seat}
use Rattle.kp_step.specs.Choices.{Choices}
use Rattle.kp_step.specs.Node.{Node, Images}
use Rattle.kp_step.specs.Applying.{upcoming}
use Rattle.kp_step.specs.Asking.{Words}
use Rattle.kp_step.specs.Step.{Turn, drain_turn, hears_client, client_turn, commit_turn, turned}
use Rattle.kp_kept.proofs.Shapes.{pick}

-- the turn says what has this row, and the node was started as often
pub record Turns (x : Node) (row : ℕ) (t : Turn) : Type 0 where
  pub says : row_of_said t.said ≡ row
  pub boot : t.node.boot ≡ x.boot
  pub me : t.node.me ≡ x.me
  pub members : t.node.members ≡ x.members

-- hearing of a client leaves it
record Same (x y : Node) : Type 0 where
  boot : y.boot ≡ x.boot
  me : y.me ≡ x.me
  members : y.members ≡ x.members

hears : (now : ℕ) (p : Phase) (x : Node) → Same x (hears_client now p x)
hears now phase.Fresh x = record { boot = refl; me = refl; members = refl }
hears now (phase.Connecting ro) x = record { boot = refl; me = refl; members = refl }
hears now (phase.Live s e n) x = record { boot = refl; me = refl; members = refl }
hears now (phase.Closing lost) x = record { boot = refl; me = refl; members = refl }

client_turns : (words : Words) (ch : Choices) (x : Node) (now k : ℕ) (bytes : List ℕ) (o : Option Seat) → Turns x 1 (client_turn words ch x now k bytes o)
client_turns words ch x now k bytes None = record { says = refl; boot = refl; me = refl; members = refl }
client_turns words ch x now k bytes (Some s) = pick (Turns x 1) (is_over s.connection.phase) _ _ (record { says = refl; boot = refl; me = refl; members = refl })
    (let h = hears now s.connection.phase x in record { says = refl; boot = h.boot; me = h.me; members = h.members })

drain_turns : (x : Node) (k : ℕ) (o : Option Seat) → Turns x 3 (drain_turn x k o)
drain_turns x k None = record { says = refl; boot = refl; me = refl; members = refl }
drain_turns x k (Some s) = record { says = refl; boot = refl; me = refl; members = refl }

commit_turns : (ch : Choices) (x : Node) (now : ℕ) (o : Option LogEntry) → Turns x 6 (commit_turn ch x now o)
commit_turns ch x now None = record { says = refl; boot = refl; me = refl; members = refl }
commit_turns ch x now (Some e) = record { says = refl; boot = refl; me = refl; members = refl }

module _ (I : Type 0) (words : Words) (im : Images I) (ch : Choices) (x : Node) (now : ℕ) where
  pub turned_so : (o : Outcome I) (image : Option I) (v : NodeEventKind (Mail I)) → Turns x (row_of_kind v) (turned words im ch x now o image v)
  unfolding turned
  turned_so o image (kind.Accept draw) = record { says = refl; boot = refl; me = refl; members = refl }
  turned_so o image (kind.Client k bytes) = client_turns words ch x now k bytes (map.get x.seats k)
  turned_so o image (kind.Hangup k) = record { says = refl; boot = refl; me = refl; members = refl }
  turned_so o image (kind.Drain k) = drain_turns x k (map.get x.seats k)
  turned_so o image (kind.Deliver m) = record { says = refl; boot = refl; me = refl; members = refl }
  turned_so o image kind.Timeout = record { says = refl; boot = refl; me = refl; members = refl }
  turned_so o image kind.Beat = record { says = refl; boot = refl; me = refl; members = refl }
  turned_so o image kind.CommitOne = commit_turns ch x now (upcoming x)
  turned_so o image kind.ExpireDue = record { says = refl; boot = refl; me = refl; members = refl }
  turned_so o image kind.Snapshot = record { says = refl; boot = refl; me = refl; members = refl }
