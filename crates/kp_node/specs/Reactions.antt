-- What a node's parts become where Raft takes an event by which at most a no-op is appended.
use Rattle.std.specs.Prelude.{◌≡◌, ◌+◌, ℕ, Bool, true, false, List, [], Option, None, if◌then◌else◌}
use Rattle.std.specs.Ordering.{nat_cmp}
use Rattle.std.specs.FinMap.{FinMap}
use Rattle.kp_entry.specs.Held.{replay}
use Rattle.kp_raft.specs.declared.event.RaftEvent.{RaftEvent}
use Rattle.kp_raft.specs.declared.event.RaftEvent.TheVariants as asked
use Rattle.kp_raft.specs.declared.mail.Mail.{Mail}
use Rattle.kp_raft.specs.Parts as raft
use Rattle.kp_raft.specs.Members.{running_of}
use Rattle.kp_event.specs.declared.event.NodeEventKind.{NodeEventKind}
use Rattle.kp_event.specs.declared.said.Said.TheVariants as says
use Rattle.kp_event.specs.declared.thought.Standing.{Standing}
use Rattle.kp_expiry.specs.declared.heard.Heard.{Heard}
use Rattle.kp_snapshot.specs.Snapshots.{Snapshot}
use Rattle.kp_seats.specs.Seating.{Seating}
use Rattle.kp_watch.specs.declared.watch.Watch.{Watch}
use Rattle.kp_model.specs.State.{Sessions}
use Rattle.kp_step.specs.declared.seat.Seat.{Seat}
use Rattle.kp_step.specs.Choices.{Choices}
use Rattle.kp_step.specs.Node.{Node}
use Rattle.kp_step.specs.Step.{Stepped, together, raft_turn, all_heard}
use Rattle.kp_node.specs.declared.outcome.Outcome.{Outcome}
use Rattle.kp_node.specs.declared.raft_events.Reaction.{Reaction}
use Rattle.kp_node.specs.Parts.{Parts}
use Rattle.kp_node.specs.Steps.{images}
use Rattle.kp_node.specs.Walking.{IsTurned}
use Rattle.kp_node.specs.Rising.{IsSeatRisen}
use Rattle.kp_node.specs.Foreseen.{IsForeseen, reaction, becomes_leader, rises, with_noops}

-- the step of an event that Raft takes, where it did this
abbrev pub raft_step : Choices → Node → ℕ → NodeEventKind (Mail Snapshot) → raft.Outcome Snapshot → Stepped Snapshot
raft_step ch x now v o = together images ch x v o None (raft_turn images ch x now v o None)

-- the connections behind an event by which the term rose, or didn't
abbrev pub Turns : Bool → ℕ → Seating Seat → List Watch → Seating Seat → List Watch → List ℕ → ℕ → Type 0
Turns true zxid t ws u vs ready lost = IsTurned (IsSeatRisen zxid) t ws u vs ready lost
Turns false zxid t ws u vs ready lost = (u ≡ t) × ((vs ≡ ws) × ((ready ≡ []) × (lost ≡ 0)))

-- when each session was heard, behind an event by which the member became leader, or didn't
abbrev pub heard_if : Bool → ℕ → Sessions → FinMap nat_cmp Heard → FinMap nat_cmp Heard
heard_if b now sessions heard = if b then all_heard now sessions else heard

-- all but when each session was heard
pub record IsReaction (e : RaftEvent Snapshot) (lead : Option ℕ) (x : Parts) (r : Reaction) (y : Parts) : Type 0 where
  pub records : r.records ≡ (reaction x.member e).records
  pub mail : r.mail ≡ (reaction x.member e).mail
  pub me : y.member.node ≡ x.member.node
  pub members : y.member.members ≡ x.member.members
  pub held : y.member.held ≡ replay x.member.held (reaction x.member e).records
  pub running : running_of y.member ≡ (reaction x.member e).running
  pub turns : Turns (rises x.member e) x.store.state.applied x.seating x.watches y.seating y.watches r.ready r.lost
  pub store : y.store ≡ with_noops (becomes_leader x.member e) lead x.store
  pub spoken : y.spoken ≡ x.spoken
  pub boot : y.boot ≡ x.boot
  pub events : y.events ≡ x.events + 1

-- Raft took a message, as it was foreseen, and what follows of it was done
pub record IsDelivered (now : ℕ) (m : Mail Snapshot) (x : Parts) (r : Reaction) (y : Parts) : Type 0 where
  pub may_rise : Bool
  pub lead : Option ℕ
  pub foreseen : IsForeseen x.member (asked.Deliver m) may_rise lead
  pub reaction : IsReaction (asked.Deliver m) lead x r y
  pub heard : y.heard ≡ heard_if (becomes_leader x.member (asked.Deliver m)) now x.store.state.sessions x.heard

-- what is given of it
abbrev pub given_by : Reaction → Standing → Outcome
given_by r standing = record { said = says.Raft; records = r.records; image = None; mail = r.mail; cut = None; lost = r.lost; standing = standing; ready = r.ready }
