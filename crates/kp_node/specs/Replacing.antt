-- What a node's parts become where a leader sends an image.
use Rattle.std.specs.Prelude.{◌≡◌, ◌+◌, ℕ, nat_lt, [], map, is_some, Option, None, if◌then◌else◌}
use Rattle.kp_entry.specs.Held.{replay}
use Rattle.kp_raft.specs.declared.event.RaftEvent.TheVariants as event
use Rattle.kp_raft.specs.Parts.{Outcome}
use Rattle.kp_raft.specs.Members.{running_of}
use Rattle.kp_event.specs.declared.event.NodeEventKind.TheVariants as kind
use Rattle.kp_event.specs.declared.said.Said.TheVariants as says
use Rattle.kp_event.specs.declared.thought.Standing.{Standing}
use Rattle.kp_snapshot.specs.Snapshots.{Snapshot}
use Rattle.kp_step.specs.Choices.{Choices}
use Rattle.kp_step.specs.Node.{Node}
use Rattle.kp_step.specs.Asking.{Input, idle, asks, is_whole, reacted, installed}
use Rattle.kp_step.specs.Step.{Stepped, together, raft_turn, filled, all_heard}
use Rattle.kp_node.specs.declared.outcome.Outcome.{Outcome as Given}
use Rattle.kp_node.specs.declared.installs.Sending.{Sending}
use Rattle.kp_node.specs.declared.install_events.Moved.{Moved}
use Rattle.kp_node.specs.Parts.{Parts}
use Rattle.kp_node.specs.Steps.{images}
use Rattle.kp_node.specs.Appending.{Agrees}
use Rattle.kp_node.specs.Filling.{answers}
use Rattle.kp_node.specs.Installing.{mail_of, state_behind}
use Rattle.kp_node.specs.Leaving.{Leaves}

-- what Raft is asked: the message, where the image is of the index and the term that it names
abbrev pub install_input : Sending → Input Snapshot
install_input q = if is_whole images q.index q.index_term q.image then asks (event.Deliver (mail_of q)) else idle

-- the step, where Raft did this and took this image
abbrev pub install_with : Choices → Node → ℕ → Sending → Outcome Snapshot → Option Snapshot → Stepped Snapshot
install_with ch x now q o i = together images ch x (kind.Deliver (mail_of q)) o i (raft_turn images ch x now (kind.Deliver (mail_of q)) o i)

abbrev pub install_as : Choices → Node → ℕ → Sending → Input Snapshot → Stepped Snapshot
install_as ch x now q input = install_with ch x now q (reacted x input) (installed x input)

abbrev pub install_step : Choices → Node → ℕ → Sending → Stepped Snapshot
install_step ch x now q = install_as ch x now q (install_input q)

-- Raft did this and took this image, or none, and the rest follows
pub record IsMoved (now : ℕ) (o : Outcome Snapshot) (i : Option Snapshot) (x : Parts) (r : Moved) (y : Parts) : Type 0 where
  pub records : r.records ≡ o.records
  pub mail : r.mail ≡ map (filled x.spoken) o.mail
  pub image : r.image ≡ i
  pub me : y.member.node ≡ x.member.node
  pub members : y.member.members ≡ x.member.members
  pub held : y.member.held ≡ replay x.member.held o.records
  pub running : running_of y.member ≡ o.running
  pub leaves : Leaves (nat_lt x.member.held.term (replay x.member.held o.records).term) (is_some i) x.store.state.applied x.seating x.watches y.seating y.watches r.ready r.lost
  pub state : y.store.state ≡ state_behind x.store i
  pub agrees : Agrees y.member y.store
  pub heard : y.heard ≡ (if is_some i then all_heard now y.store.state.sessions else x.heard)
  pub spoken : y.spoken ≡ (if answers o.mail then [] else x.spoken)
  pub boot : y.boot ≡ x.boot
  pub events : y.events ≡ x.events + 1

-- what is given of it
abbrev pub given_behind_it : Moved → Standing → Given
given_behind_it r standing = record { said = says.Raft; records = r.records; image = r.image; mail = r.mail; cut = None; lost = r.lost; standing = standing; ready = r.ready }
