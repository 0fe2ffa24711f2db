-- What each kind of step tells the seat that makes it: m is the seat before (its view, and the slots that it has taken), r the
-- number that the step found in the word, and n the seat after.
use Rattle.std.specs.Prelude.{◌≡◌, ℕ, ◌^◌, ◌<◌, ◌≤◌, IsTrue, true, false, List, [], ◌∷◌, ◌++◌, length}
use Rattle.std.specs.Prelude as std
use Rattle.atomic_table.specs.Table.{Me}
use Rattle.kp_turn.specs.declared.view.TurnView.{TurnView}
use Rattle.kp_turn.specs.declared.view.TurnSlot.{TurnSlot}
use Rattle.kp_turn.specs.History.{Runs, Leads, IsPrefix}
use Rattle.kp_turn.specs.TurnView.{SeesMore, with_met}

-- a seat: its view, and the slots that it has taken
abbrev pub Sitting : Type 0 → Type 0 → Type 0 → Type 0
Sitting T E A = Me (TurnSlot T E A) (TurnView T E A)

module _ {T E A : Type 0} where
  -- the slot tells this event and this answer as the last ones
  abbrev pub Tells : TurnSlot T E A → E → A → Type 0
  Tells x e a = std.IsSomeAnd x.last (λ p. (p.0.value ≡ e) × (p.1.value ≡ a))

  -- the seat gave the turn up
  abbrev pub given_up : TurnView T E A → TurnView T E A
  given_up v = record v { has_turn = false }

  -- the event stands at the end of the history, all of which the seat had seen
  abbrev pub with_event : TurnView T E A → E → A → T → TurnView T E A
  with_event v e a y = record v { seen = v.seen ++ (e, a, y) ∷ []; mine = v.mine ++ length v.seen ∷ [] }

  -- the seat got the turn, and has seen all of the history
  abbrev pub GetsTurn : TurnView T E A → TurnView T E A → Type 0
  GetsTurn v w = IsPrefix v.seen w.seen × (w ≡ record v { seen = w.seen; has_turn = true })

  -- the seat has the value, to which the history that it has seen led
  abbrev pub Carries : (T → ℕ) → (T → E → A → T → Type 0) → Sitting T E A → Type 0
  Carries events steps m = (x : TurnSlot T E A) × (m.1 ≡ (0, x) ∷ []) × Leads events steps m.0.start m.0.seen x.value

  -- asking: the turn was free, and the seat has it and the value; or another seat has it
  abbrev pub asked : (T → ℕ) → (T → E → A → T → Type 0) → Sitting T E A → ℕ → Sitting T E A → Type 0
  asked events steps m r n = (r ≡ 0 → GetsTurn m.0 n.0 × Carries events steps n) × (0 < r → n ≡ (with_met m.0, m.1))

  -- loading the count: the seat has seen all of the history, of as many events; in its turn it had seen all before
  abbrev pub loaded : (T → E → A → T → Type 0) → Sitting T E A → ℕ → Sitting T E A → Type 0
  loaded steps m r n = SeesMore m.0 n.0 × (n.1 ≡ m.1) × (length n.0.seen ≡ r) × (r ≤ 2 ^ 62) × Runs steps n.0.start n.0.seen × (IsTrue m.0.has_turn → n.0 ≡ m.0)

  -- raising the count: the event that the slot tells joins the history
  abbrev pub raised : Sitting T E A → ℕ → Sitting T E A → Type 0
  raised m r n = (x : TurnSlot T E A) (e : E) (a : A) → m.1 ≡ (0, x) ∷ [] → Tells x e a → n ≡ (with_event m.0 e a x.value, m.1)

  -- giving the turn up: the seat has neither turn nor value
  abbrev pub gave_up : Sitting T E A → ℕ → Sitting T E A → Type 0
  gave_up m r n = n ≡ (given_up m.0, [])
