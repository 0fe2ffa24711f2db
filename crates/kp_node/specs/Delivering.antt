-- The step of a message: the step of the definition at that event.
use Rattle.std.specs.Prelude.{ℕ}
use Rattle.kp_event.specs.declared.event.NodeEventKind.TheVariants as kind
use Rattle.kp_raft.specs.declared.mail.Mail.{Mail}
use Rattle.kp_snapshot.specs.Snapshots.{Snapshot}
use Rattle.kp_step.specs.Asking.{Input, reacted, installed, mail_input}
use Rattle.kp_step.specs.Choices.{Choices}
use Rattle.kp_step.specs.Node.{Node}
use Rattle.kp_step.specs.Step.{Stepped, together, raft_turn}
use Rattle.kp_node.specs.Steps.{images}

-- the step of a message, where Raft is asked this
abbrev pub mail_with : Choices → Node → ℕ → Mail Snapshot → Input Snapshot → Stepped Snapshot
mail_with ch x now m input = together images ch x (kind.Deliver m) (reacted x input) (installed x input) (raft_turn images ch x now (kind.Deliver m) (reacted x input) (installed x input))

-- the step of a message
abbrev pub mail_step : Choices → Node → ℕ → Mail Snapshot → Stepped Snapshot
mail_step ch x now m = mail_with ch x now m (mail_input images ch.room x now m)
