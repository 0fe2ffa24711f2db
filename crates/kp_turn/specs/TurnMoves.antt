-- What the parts of one call do together, between asking for the turn and giving it up.
use Rattle.std.specs.Prelude.{◌≡◌, ℕ, ◌<◌, ◌^◌, ◌≤◌, IsTrue, true, false, [], ◌∷◌, ◌++◌, length}
use Rattle.kp_turn.specs.declared.view.TurnView.{TurnView}
use Rattle.kp_turn.specs.declared.view.TurnSlot.{TurnSlot}
use Rattle.kp_turn.specs.History.{Leads, Answers, IsPrefix}
use Rattle.kp_turn.specs.TurnView.{IsFull}
use Rattle.kp_turn.specs.TurnPlays.{Sitting, Carries, Tells, given_up, with_event}

module _ {T E A : Type 0} where
  -- the seat has neither the turn nor the value
  abbrev pub IsOut : Sitting T E A → Type 0
  IsOut m = (m.1 ≡ []) × (m.0.has_turn ≡ false)

  -- the seat has the turn and the value
  abbrev pub HasValue : (T → ℕ) → (T → E → A → T → Type 0) → Sitting T E A → Type 0
  HasValue events steps m = IsTrue m.0.has_turn × Carries events steps m

  -- the value has taken the event, which the history does not have yet
  abbrev pub HasStepped : (T → ℕ) → (T → E → A → T → Type 0) → Sitting T E A → E → A → Type 0
  HasStepped events steps m e a = IsTrue m.0.has_turn
      × ((x : TurnSlot T E A) × (m.1 ≡ (0, x) ∷ []) × Tells x e a × Leads events steps m.0.start (m.0.seen ++ (e, a, x.value) ∷ []) x.value
      × Answers steps m.0.start m.0.seen e a x.value)

  -- the seat waited, and got the turn
  abbrev pub WaitsForTurn : TurnView T E A → TurnView T E A → Type 0
  WaitsForTurn v w = IsPrefix v.seen w.seen × (v.met ≤ w.met) × (w ≡ record v { seen = w.seen; met = w.met; has_turn = true })

  -- in its turn the seat added the event to all that there was
  abbrev pub TakesEvent : (T → E → A → T → Type 0) → TurnView T E A → TurnView T E A → E → A → Type 0
  TakesEvent steps v w e a = (y : T) × (w ≡ given_up (with_event v e a y)) × (length v.seen < 2 ^ 62) × Answers steps v.start v.seen e a y

  -- in its turn the seat added nothing, since the history is full
  abbrev pub SparesEvent : TurnView T E A → TurnView T E A → Type 0
  SparesEvent v w = (w ≡ given_up v) × IsFull v
