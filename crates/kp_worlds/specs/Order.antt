-- The messages of a step are in the order of their receivers.
use Rattle.std.specs.Prelude.{◌≤◌, ℕ, List, [], ◌∷◌}
use Rattle.kp_raft.specs.declared.mail.Mail.{Mail}
use Rattle.kp_event.specs.declared.event.NodeEvent.{NodeEvent}
use Rattle.kp_step.specs.Choices.{Choices}
use Rattle.kp_step.specs.Node.{Node, Images}
use Rattle.kp_step.specs.Asking.{Words}
use Rattle.kp_step.specs.Step.{step}

-- ascending by their receivers, the first of which is this or a greater one
abbrev pub IsAscending : {I : Type 0} → ℕ → List (ℕ × Mail I) → Type 0
IsAscending least [] = Unit {0}
IsAscending least (m ∷ ms) = (least ≤ m.0) × IsAscending m.0 ms

-- of each step of each node
abbrev pub MessagesAscend : Type 0 → Type 0
MessagesAscend I = (words : Words) (im : Images I) (ch : Choices) (x : Node) (v : NodeEvent (Mail I)) → IsAscending 0 (step words im ch x v).mail
