-- What a node's parts become where an append comes.
use Rattle.std.specs.Prelude.{◌≡◌, ◌+◌, ℕ, nat_lt, [], map, length, Some, None, if◌then◌else◌}
use Rattle.kp_entry.specs.Held.{replay}
use Rattle.kp_raft.specs.declared.append.AppendMail.{AppendMail}
use Rattle.kp_raft.specs.declared.mail.Mail.TheVariants as mail
use Rattle.kp_raft.specs.Steps.{take}
use Rattle.kp_raft.specs.Members.{running_of}
use Rattle.kp_event.specs.declared.event.NodeEventKind.TheVariants as kind
use Rattle.kp_event.specs.declared.said.Said.TheVariants as says
use Rattle.kp_event.specs.declared.thought.Standing.{Standing}
use Rattle.kp_snapshot.specs.Snapshots.{Snapshot}
use Rattle.kp_step.specs.Choices.{Choices}
use Rattle.kp_step.specs.Node.{Node}
use Rattle.kp_step.specs.Asking.{append_taken, entries_taken, cut_at}
use Rattle.kp_step.specs.Step.{Stepped, filled}
use Rattle.kp_node.specs.declared.outcome.Outcome.{Outcome}
use Rattle.kp_node.specs.declared.append_events.Taken.{Taken}
use Rattle.kp_node.specs.Parts.{Parts}
use Rattle.kp_node.specs.Appending.{Agrees, weighs, takes}
use Rattle.kp_node.specs.Filling.{answers}
use Rattle.kp_node.specs.Reactions.{raft_step, Turns}

-- the step of an append of which j entries are taken
abbrev pub append_with : Choices → Node → ℕ → AppendMail → ℕ → Stepped Snapshot
append_with ch x now m j = raft_step ch x now (kind.Deliver (mail.Append m)) (take x.members x.me x.held x.running m j)

-- the step of an append, by the choices
abbrev pub append_step : Choices → Node → ℕ → AppendMail → Stepped Snapshot
append_step ch x now m = append_with ch x now m (append_taken ch.room x m)

-- so many entries were taken, and the rest follows
pub record IsTaken (m : AppendMail) (x : Parts) (r : Taken) (y : Parts) : Type 0 where
  pub count : ℕ
  pub room : count ≡ entries_taken (Some count) (length m.entries) (weighs x.member m)
  pub records : r.records ≡ (takes x.member m count).records
  pub mail : r.mail ≡ map (filled x.spoken) (takes x.member m count).mail
  pub me : y.member.node ≡ x.member.node
  pub members : y.member.members ≡ x.member.members
  pub held : y.member.held ≡ replay x.member.held (takes x.member m count).records
  pub running : running_of y.member ≡ (takes x.member m count).running
  pub turns : Turns (nat_lt x.member.held.term (replay x.member.held (takes x.member m count).records).term) x.store.state.applied x.seating x.watches y.seating y.watches r.ready r.lost
  pub state : y.store.state ≡ x.store.state
  pub agrees : Agrees y.member y.store
  pub heard : y.heard ≡ x.heard
  pub spoken : y.spoken ≡ (if answers (takes x.member m count).mail then [] else x.spoken)
  pub boot : y.boot ≡ x.boot
  pub events : y.events ≡ x.events + 1
  pub cut : r.cut ≡ cut_at count (length m.entries)

-- what is given of it
abbrev pub given_of : Taken → Standing → Outcome
given_of r standing = record { said = says.Raft; records = r.records; image = None; mail = r.mail; cut = r.cut; lost = r.lost; standing = standing; ready = r.ready }
