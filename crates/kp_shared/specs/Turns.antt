-- What the calls that make a turn tell.
use Rattle.std.specs.Prelude.{◌≡◌, ℕ, List, [], ◌∷◌, ◌++◌, Result, Ok, Err}
use Rattle.kp_turn.specs.TurnSeats.{view}
use Rattle.kp_event.specs.declared.event.NodeEventKind.{NodeEventKind}
use Rattle.kp_event.specs.declared.thought.Thought.{Thought}
use Rattle.kp_event.specs.Kinds.{row_of_kind, row_of_said}
use Rattle.kp_shared.specs.Letters.{Letter}
use Rattle.kp_shared.specs.declared.plan.Step.{Step}
use Rattle.kp_shared.specs.declared.plan.Step.TheVariants as step
use Rattle.kp_shared.specs.declared.task.Task.TheVariants as task
use Rattle.kp_shared.specs.declared.task.Answer.TheVariants as answer
use Rattle.kp_shared.specs.declared.refusal.Refusal.{Refusal}
use Rattle.kp_shared.specs.declared.turns.Glance.{Glance}
use Rattle.kp_shared.specs.Tasks.{Did, is_none_left, thoughts_in}
use Rattle.kp_shared.specs.Plans.{Goes, Part, Stops, Takes}
use Rattle.kp_shared.specs.Nodes.{Breaks, Does, FlushTells, Opens, ThinkTells, TurnCut, TurnSeatIn, TurnWhole}

module _ {S M : Type 0} (may : ℕ → Type 0) (b b' : List (Thought (Letter M))) (s s' : TurnSeatIn S M) where
  -- one more event was thought, or refused
  abbrev pub MoreTells : NodeEventKind M → Result Glance Refusal → Type 0
  MoreTells k (Ok g) = (t : Thought (Letter M)) × (b' ≡ b ++ t ∷ []) × (g.none_left ≡ is_none_left t.said) × ThinkTells may k (Ok t) s s'
  MoreTells k (Err r) = ThinkTells may k (Err r) s s'

  -- one more step was done, or cut
  abbrev pub StepTells : {A : Type 0} → Step M → Result A Refusal → Type 0
  StepTells p (Ok a) = (ds : List (Did M)) × (b' ≡ b ++ thoughts_in ds) × Takes p ds × Opens may (view s) (view s') ds
  StepTells p (Err r) = (ds : List (Did M)) × Part p ds × Breaks may (view s) (view s') r ds

  -- all steps were done, or they were cut within one
  abbrev pub PlanTells : List (Step M) → Result (Unit {0}) Refusal → Type 0
  PlanTells ps (Ok u) = (ds : List (Did M)) × (b' ≡ b ++ thoughts_in ds) × Goes ps ds × Opens may (view s) (view s') ds
  PlanTells ps (Err r) = (ds : List (Did M)) × Stops ps ds × Breaks may (view s) (view s') r ds

module _ {S M : Type 0} (may : ℕ → Type 0) (s s' : TurnSeatIn S M) where
  -- a whole turn, with the thoughts that may leave, or a turn that was cut
  abbrev pub TurnDone : List (Step M) → List (Thought (Letter M)) → Type 0
  TurnDone ps ts = (ds : List (Did M)) × TurnWhole may (view s) (view s') ps ts ds

  abbrev pub TurnBroken : List (Step M) → Refusal → Type 0
  TurnBroken ps r = (ds : List (Did M)) × TurnCut may (view s) (view s') ps r ds

  -- one event was thought and kept, or that turn was cut
  abbrev pub OneTells : NodeEventKind M → Result (Thought (Letter M)) Refusal → Type 0
  OneTells k (Ok t) = (now : ℕ) × (n : ℕ) × may now × (row_of_said t.said ≡ row_of_kind k)
      × Does (view s) (view s') ((task.Think record { now = now; kind = k }, Ok (answer.Thought t)) ∷ (task.Flush, Ok (answer.Kept n)) ∷ [])
  OneTells k (Err r) = TurnBroken (step.Event k ∷ []) r

-- what was thought was kept, or that was refused
abbrev pub KeepTells : {S M A : Type 0} → A → Result A Refusal → TurnSeatIn S M → TurnSeatIn S M → Type 0
KeepTells b (Ok kept) s s' = (kept ≡ b) × (n : ℕ) × FlushTells (Ok n) s s'
KeepTells b (Err r) s s' = FlushTells (Err r) s s'
