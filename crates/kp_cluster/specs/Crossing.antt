-- What the members of a world answer, and the attaches that any of them has applied.
use Rattle.std.specs.Prelude.{◌≡◌, ℕ, cond, List, Option, None, Some, slice_get}
use Rattle.std.specs.List.{AllByRecursion}
use Rattle.kp_raft.specs.declared.mail.Mail.{Mail}
use Rattle.kp_event.specs.declared.event.NodeEvent.{NodeEvent}
use Rattle.kp_event.specs.declared.event.NodeEventKind.TheVariants as kind
use Rattle.kp_step.specs.Choices.{Choices}
use Rattle.kp_step.specs.Node.{Node, Images}
use Rattle.kp_step.specs.Asking.{Words}
use Rattle.kp_step.specs.Settling.{Told}
use Rattle.kp_step.specs.Step.{Stepped, step}
use Rattle.kp_world.specs.Net.{Sent, is_member}
use Rattle.kp_cluster.specs.World.{World, At, Comes, Event, Does, Tears, Starts, is_own, happens, run, world_after}
use Rattle.kp_cluster.specs.Laws.{AreFaithful}
use Rattle.kp_cluster.specs.Serving.{KeepsTo}

module _ {I : Type 0} (words : Words) (im : Images I) (n : ℕ) where
  abbrev pub stepping : ℕ → Choices → NodeEvent (Mail I) → Option Node → Option (ℕ × Stepped I)
  stepping k ch v None = None
  stepping k ch v (Some x) = Some (k, step words im ch x v)

  abbrev pub hearing : World I → Choices → ℕ → Option (Sent I) → Option (ℕ × Stepped I)
  hearing w ch now None = None
  hearing w ch now (Some m) = cond (is_member n m.to) (stepping m.to ch (record { now = now; kind = kind.Deliver m.message }) (w.members m.to).node) None

  -- the member that makes a step in an event, and what the step gives; None where none is made, or where it is stopped in it
  abbrev pub makes : World I → Event I → Option (ℕ × Stepped I)
  makes w (Does ch (At k v)) = cond (is_member n k) (cond (is_own v.kind) (stepping k ch v (w.members k).node) None) None
  makes w (Does ch (Comes i now)) = hearing w ch now (slice_get w.sent i)
  makes w (Tears ch a j) = None
  makes w (Starts k now) = None

-- each answer of a step keeps to the attaches among what a member has applied in this world
abbrev pub KeepTo : {I : Type 0} → Stepped I → World I → Type 0
KeepTo o w = (j c : ℕ) → AllByRecursion (λ (t : Told). KeepsTo (w.members j).done t) (o.told c)

-- of each step that a member makes in any world: its answers keep to what any member has applied at any later moment, and at any earlier one
abbrev pub AnswersKeepLater : Type 0 → Type 0
AnswersKeepLater I = (words : Words) (im : Images I) → AreFaithful im → (n : ℕ) (events later : List (Event I)) (e : Event I) (k : ℕ) (o : Stepped I)
    → makes words im n (world_after words im n events) e ≡ Some (k, o) → KeepTo o (run words im n later (happens words im n (world_after words im n events) e))

abbrev pub AnswersKeepEarlier : Type 0 → Type 0
AnswersKeepEarlier I = (words : Words) (im : Images I) → AreFaithful im → (n : ℕ) (events more : List (Event I)) (e : Event I) (k : ℕ) (o : Stepped I)
    → makes words im n (run words im n more (world_after words im n events)) e ≡ Some (k, o) → KeepTo o (world_after words im n events)
