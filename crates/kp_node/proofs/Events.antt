-- The step at each kind of event is what its function makes.
use Rattle.std.proofs.Common.{◌≡◌, ℕ, List, refl}
use Rattle.std.specs.FinMap as map
use Rattle.kp_event.specs.declared.event.NodeEventKind.TheVariants as kind
use Rattle.kp_raft.specs.declared.event.RaftEvent.TheVariants as event
use Rattle.kp_raft.specs.Steps.{react}
use Rattle.kp_step.specs.Choices.{Choices}
use Rattle.kp_step.specs.Node.{Node}
use Rattle.kp_step.specs.Asking.{Words, asked, reacted, installed}
use Rattle.kp_step.specs.Step.{accept_turn, hangup_turn, drain_turn, turned, step}
use Rattle.kp_node.specs.Reactions.{raft_step}
use Rattle.kp_node.specs.Steps.{images, aside}
use Rattle.kp_node.specs.Timing.{beat_step, snapshot_step}

module _ (words : Words) (ch : Choices) (x : Node) (now : ℕ) where
  pub at_accept : (draw : List ℕ) → step words images ch x (record { now = now; kind = kind.Accept draw }) ≡ aside ch x (kind.Accept draw) (accept_turn x draw)
  unfolding step asked reacted installed turned
  at_accept draw = refl

  pub at_hangup : (k : ℕ) → step words images ch x (record { now = now; kind = kind.Hangup k }) ≡ aside ch x (kind.Hangup k) (hangup_turn x k)
  unfolding step asked reacted installed turned
  at_hangup k = refl

  pub at_drain : (k : ℕ) → step words images ch x (record { now = now; kind = kind.Drain k }) ≡ aside ch x (kind.Drain k) (drain_turn x k (map.get x.seats k))
  unfolding step asked reacted installed turned
  at_drain k = refl

  pub at_beat : step words images ch x (record { now = now; kind = kind.Beat }) ≡ beat_step ch x
  unfolding step asked reacted installed turned
  at_beat = refl

  pub at_snapshot : step words images ch x (record { now = now; kind = kind.Snapshot }) ≡ snapshot_step ch x
  unfolding step asked reacted installed turned
  at_snapshot = refl

  pub at_timeout : step words images ch x (record { now = now; kind = kind.Timeout }) ≡ raft_step ch x now kind.Timeout (react x.members x.me x.held x.running event.Timeout)
  unfolding step asked reacted installed turned
  at_timeout = refl
