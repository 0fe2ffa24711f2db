-- Which bodies a member sends on to its leader.
use Rattle.std.specs.Prelude.{ℕ, Option}
use Rattle.std.specs.List.{AllByRecursion}
use Rattle.kp_model.specs.declared.entry.Body.{Body}
use Rattle.kp_model.specs.declared.entry.Body.TheVariants as body
use Rattle.kp_raft.specs.declared.mail.Mail.{Mail}
use Rattle.kp_raft.specs.Parts.{Outcome}
use Rattle.kp_event.specs.declared.event.NodeEventKind.{NodeEventKind}
use Rattle.kp_step.specs.Choices.{Choices}
use Rattle.kp_step.specs.Node.{Node, Images}
use Rattle.kp_step.specs.Asking.{Words}
use Rattle.kp_step.specs.Step.{turned}

-- a body of a client: the opening or the taking over of a session, or a write
abbrev pub IsOfClient : Body → Type 0
IsOfClient (body.OpenSession timeout passwd origin) = Unit {0}
IsOfClient (body.Attach session passwd origin) = Unit {0}
IsOfClient (body.Write session epoch seq c) = Unit {0}
IsOfClient (body.Expire session) = ⊥
IsOfClient body.Noop = ⊥

-- whatever Raft made of an event of whatever kind
abbrev pub ForwardsAreOfClients : Type 0 → Type 0
ForwardsAreOfClients I = (words : Words) (im : Images I) (ch : Choices) (x : Node) (now : ℕ) (o : Outcome I) (image : Option I) (v : NodeEventKind (Mail I))
    → AllByRecursion IsOfClient (turned words im ch x now o image v).forwards
