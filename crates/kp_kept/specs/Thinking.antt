-- What a node with its home thinks: a step of the definition.
use Rattle.std.specs.Prelude.{◌≡◌, ℕ}
use Rattle.kp_raft.specs.declared.mail.Mail.{Mail}
use Rattle.kp_event.specs.declared.event.NodeEvent.{NodeEvent}
use Rattle.kp_event.specs.declared.thought.Thought.{Thought}
use Rattle.kp_snapshot.specs.Snapshots.{Snapshot}
use Rattle.kp_step.specs.Choices.{Choices}
use Rattle.kp_step.specs.Step.{step}
use Rattle.kp_node.specs.declared.outcome.Outcome.{Outcome}
use Rattle.kp_node.specs.Facts.{words}
use Rattle.kp_node.specs.Parts.{Parts, node_of}
use Rattle.kp_node.specs.Steps.{Steps, images}

-- a message with the number of the node that it is for
abbrev pub Letter : Type 0
Letter = ℕ × Mail Snapshot

-- the thought is this number's, and has what the outcome has beside what is kept
pub record IsOf (o : Outcome) (number : ℕ) (t : Thought Letter) : Type 0 where
  pub said : t.said ≡ o.said
  pub mail : t.mail ≡ o.mail
  pub cut : t.cut ≡ o.cut
  pub lost : t.lost ≡ o.lost
  pub standing : t.standing ≡ o.standing
  pub ready : t.ready ≡ o.ready
  pub number_is : t.number ≡ number

-- the event is a step of the definition, by some choices, which wants this kept and gives this thought
pub record Moves (x : Parts) (e : NodeEvent (Mail Snapshot)) (o : Outcome) (t : Thought Letter) (y : Parts) : Type 0 where
  pub choices : Choices
  pub steps : Steps (step words images choices (node_of x) e) x y o
  pub thought : IsOf o y.events t
