-- What the function of an event makes, under every choice or under some, is the step at that event.
use Rattle.std.proofs.Common.{◌≡◌, ℕ, None, ap, sym, subst, ◌∙◌}
use Rattle.std.specs.Prelude.{Result, Ok, Err, IfOk}
use Rattle.kp_event.specs.declared.event.NodeEvent.{NodeEvent}
use Rattle.kp_event.specs.declared.event.NodeEventKind.{NodeEventKind}
use Rattle.kp_raft.specs.declared.mail.Mail.{Mail}
use Rattle.kp_snapshot.specs.Snapshots.{Snapshot}
use Rattle.kp_step.specs.Choices.{Choices}
use Rattle.kp_step.specs.Step.{Stepped, step}
use Rattle.kp_node.specs.declared.outcome.Outcome.{Outcome}
use Rattle.kp_node.specs.Facts.{words}
use Rattle.kp_node.specs.Parts.{Parts, node_of}
use Rattle.kp_node.specs.Steps.{Steps, images}

-- all memory is found
abbrev ample : Choices
ample = record { room = None; luck = λ k. record { events = None; requests = None; answers = None } }

-- the event makes this step
abbrev pub Makes : Parts → NodeEvent (Mail Snapshot) → Parts → Outcome → Type 0
Makes x v y o = (ch : Choices) × Steps (step words images ch (node_of x) v) x y o

module _ (x : Parts) (v : NodeEvent (Mail Snapshot)) (k : NodeEventKind (Mail Snapshot)) (is : v.kind ≡ k) (s : Choices → Stepped Snapshot) (same : (ch : Choices) → step words images ch (node_of x) (record { now = v.now; kind = k }) ≡ s ch) where
  here : (ch : Choices) → step words images ch (node_of x) v ≡ s ch
  here ch = ap (λ j. step words images ch (node_of x) (record { now = v.now; kind = j })) is ∙ same ch

  pub of_all : (y : Parts) (o : Outcome) → ((ch : Choices) → Steps (s ch) x y o) → Makes x v y o
  of_all y o all = (ample, subst (λ t. Steps t x y o) (sym (here ample)) (all ample))

  pub of_some : (y : Parts) (o : Outcome) → (ch : Choices) × Steps (s ch) x y o → Makes x v y o
  of_some y o some = (some.0, subst (λ t. Steps t x y o) (sym (here some.0)) some.1)

  pub if_all : {E : Type 0} → (y : Parts) (r : Result Outcome E) → IfOk r (λ o. (ch : Choices) → Steps (s ch) x y o) → IfOk r (Makes x v y)
  if_all y (Ok o) all = of_all y o all
  if_all y (Err e) all = all

  pub if_some : {E : Type 0} → (y : Parts) (r : Result Outcome E) → IfOk r (λ o. (ch : Choices) × Steps (s ch) x y o) → IfOk r (Makes x v y)
  if_some y (Ok o) some = of_some y o some
  if_some y (Err e) some = some
