-- A seat of a running node's turn, and what tasks do to what the seat knows.
use Rattle.std.specs.Prelude.{◌≡◌, ◌⊎◌, ℕ, List, [], ◌∷◌, ◌++◌, map, Result, Ok, Err}
use mathlib.Core.Option.{some}
use Rattle.std.specs.declared.snapshot.Snapshot.{Snapshot}
use Rattle.atomic_table.specs.declared.shared.Seat.{Seat}
use Rattle.kp_turn.specs.declared.turn.TurnOf.{TurnOf}
use Rattle.kp_turn.specs.declared.view.TurnView.{TurnView}
use Rattle.kp_turn.specs.declared.view.TurnSlot.{TurnSlot}
use Rattle.kp_turn.specs.TurnSeats.{IsSeatOf, view}
use Rattle.kp_turn.specs.TurnView.{own, IsFull}
use Rattle.kp_event.specs.declared.event.NodeEventKind.{NodeEventKind}
use Rattle.kp_event.specs.declared.thought.Thought.{Thought}
use Rattle.kp_event.specs.declared.fail.KeptFail.{KeptFail}
use Rattle.kp_event.specs.declared.fail.KeptFail.TheVariants as fail
use Rattle.kp_event.specs.Kinds.{row_of_kind, row_of_said}
use Rattle.kp_shared.specs.Letters.{Letter}
use Rattle.kp_shared.specs.declared.kept.Life.{Life}
use Rattle.kp_shared.specs.declared.plan.Step.{Step}
use Rattle.kp_shared.specs.declared.task.Task.{Task}
use Rattle.kp_shared.specs.declared.task.Task.TheVariants as task
use Rattle.kp_shared.specs.declared.task.Answer.TheVariants as answer
use Rattle.kp_shared.specs.declared.refusal.Refusal.{Refusal}
use Rattle.kp_shared.specs.declared.refusal.Refusal.TheVariants as refusal
use Rattle.kp_shared.specs.TaskSteps.{Answered, IsAlive}
use Rattle.kp_shared.specs.Tasks.{Did, Each, Fitting, InTime, Went, flushed, thoughts_in, waiting}
use Rattle.kp_shared.specs.Ends.{IsUntorn}
use Rattle.kp_shared.specs.Plans.{IsCut, IsTurn}

-- what a seat of a running node's turn knows
abbrev pub ViewIn : Type 0 → Type 0 → Type 0
ViewIn S M = TurnView S (Task M) (Answered M)

-- a seat of a running node's turn
abbrev pub TurnSeatIn : Type 0 → Type 0 → Type 0
TurnSeatIn S M = Seat (TurnSlot S (Task M) (Answered M)) (ViewIn S M)

module _ {S M : Type 0} where
  -- the seat is one of this turn, whose node was alive at the beginning
  pub record IsNodeTurn {Q : Type 0} (life : S → Life) (turn : TurnOf (TurnSlot S (Task M) (Answered M)) (ViewIn S M) (Snapshot S) Q) (seat : TurnSeatIn S M) : Type 0 where
    pub seated : IsSeatOf turn seat
    pub alive : IsAlive (life (view seat).start)

  -- the seat did these tasks, which were answered so, and split no seat off
  pub record Does (v w : ViewIn S M) (ds : List (Did M)) : Type 0 where
    pub own : own w ≡ own v ++ map some ds
    pub start : w.start ≡ v.start
    pub splits : w.splits ≡ v.splits

  -- the task was refused; or the history is full, and doesn't have it; or memory ran out before it
  abbrev pub Refuses : (ℕ → Type 0) → (ℕ → Task M) → Refusal → ViewIn S M → ViewIn S M → Type 0
  Refuses may t r v w = ((now : ℕ) × (f : KeptFail) × may now × (r ≡ refusal.Failed f) × IsUntorn f × Does v w ((t now, Err f) ∷ []))
      ⊎ (((r ≡ refusal.Worn) × IsFull w × Does v w []) ⊎ ((r ≡ refusal.Failed fail.NoMemory) × Does v w []))

  -- an event of this kind was thought, or refused
  abbrev pub ThinkTells : (ℕ → Type 0) → NodeEventKind M → Result (Thought (Letter M)) Refusal → TurnSeatIn S M → TurnSeatIn S M → Type 0
  ThinkTells may k (Ok t) s s' = (now : ℕ) × may now × (row_of_said t.said ≡ row_of_kind k) × Does (view s) (view s') ((task.Think record { now = now; kind = k }, Ok (answer.Thought t)) ∷ [])
  ThinkTells may k (Err r) s s' = Refuses may (λ now. task.Think record { now = now; kind = k }) r (view s) (view s')

  -- the same, where memory can run out in the node alone
  abbrev pub ThinkAsks : (ℕ → Type 0) → NodeEventKind M → Result (Thought (Letter M)) Refusal → TurnSeatIn S M → TurnSeatIn S M → Type 0
  ThinkAsks may k (Ok t) s s' = ThinkTells may k (Ok t) s s'
  ThinkAsks may k (Err r) s s' = ((now : ℕ) × (f : KeptFail) × may now × (r ≡ refusal.Failed f) × IsUntorn f × Does (view s) (view s') ((task.Think record { now = now; kind = k }, Err f) ∷ []))
      ⊎ ((r ≡ refusal.Worn) × IsFull (view s') × Does (view s) (view s') [])

  -- all that was thought was kept, or that was refused
  abbrev pub FlushTells : Result ℕ Refusal → TurnSeatIn S M → TurnSeatIn S M → Type 0
  FlushTells (Ok n) s s' = Does (view s) (view s') ((task.Flush, Ok (answer.Kept n)) ∷ [])
  FlushTells (Err r) s s' = Refuses (λ _. Unit {0}) (λ _. task.Flush) r (view s) (view s')

  -- why tasks were cut short: the last was refused; or the history is full; or memory ran out
  abbrev pub Causes : Refusal → ViewIn S M → List (Did M) → Type 0
  Causes r w ds = ((before : List (Did M)) × (t : Task M) × (f : KeptFail) × (ds ≡ before ++ (t, Err f) ∷ []) × Each Went before × (r ≡ refusal.Failed f) × IsUntorn f)
      ⊎ (((r ≡ refusal.Worn) × IsFull w × Each Went ds) ⊎ ((r ≡ refusal.Failed fail.NoMemory) × Each Went ds))

  module _ (may : ℕ → Type 0) (v w : ViewIn S M) where
    -- these events were thought, and wait for a flush behind what waited before
    pub record Opens (ds : List (Did M)) : Type 0 where
      pub does : Does v w ds
      pub times : Each (InTime may) ds
      pub went : Each Went ds
      pub fits : Each Fitting ds
      pub held : (p : List (Thought (Letter M))) → waiting p ds ≡ p ++ thoughts_in ds
      pub still : (p : List (Thought (Letter M))) → flushed p ds ≡ []

    -- these tasks were done up to one that was refused or not taken, and nothing of them may leave
    pub record Breaks (r : Refusal) (ds : List (Did M)) : Type 0 where
      pub does : Does v w ds
      pub times : Each (InTime may) ds
      pub stays : (p : List (Thought (Letter M))) → flushed p ds ≡ []
      pub cause : Causes r w ds

    -- whole turns were made, none of whose tasks was refused, and these thoughts may leave
    pub record Whole (ts : List (Thought (Letter M))) (ds : List (Did M)) : Type 0 where
      pub does : Does v w ds
      pub times : Each (InTime may) ds
      pub went : Each Went ds
      pub leaves : flushed [] ds ≡ ts
      pub settled : waiting [] ds ≡ []

    -- one whole turn of these steps
    abbrev pub TurnWhole : List (Step M) → List (Thought (Letter M)) → List (Did M) → Type 0
    TurnWhole ps ts ds = IsTurn ps ds × Whole ts ds

    -- a turn of these steps that was cut
    abbrev pub TurnCut : List (Step M) → Refusal → List (Did M) → Type 0
    TurnCut ps r ds = IsCut ps ds × Breaks r ds
