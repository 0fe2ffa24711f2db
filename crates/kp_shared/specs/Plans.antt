-- A turn of a worker: the events that it thinks one behind the other, and one flush behind them (this project's own).
use Rattle.std.specs.Prelude.{◌≡◌, ◌⊎◌, ℕ, List, [], ◌∷◌, ◌++◌, true, false, Ok}
use Rattle.kp_event.specs.declared.event.NodeEventKind.{NodeEventKind}
use Rattle.kp_event.specs.declared.event.NodeEventKind.TheVariants as kind
use Rattle.kp_shared.specs.declared.plan.Step.{Step}
use Rattle.kp_shared.specs.declared.plan.Step.TheVariants as step
use Rattle.kp_shared.specs.declared.task.Task.TheVariants as task
use Rattle.kp_shared.specs.declared.task.Answer.TheVariants as answer
use Rattle.kp_shared.specs.Tasks.{Did, Each, IsThink, finds_none}

module _ {M : Type 0} where
  -- one event of this kind
  abbrev pub IsOne : NodeEventKind M → List (Did M) → Type 0
  IsOne k ds = (d : Did M) × (ds ≡ d ∷ []) × IsThink k d

  -- a commit that is not known to be the last
  abbrev pub IsMore : Did M → Type 0
  IsMore d = IsThink kind.CommitOne d × (finds_none d ≡ false)

  -- commits, of which the last alone found no further entry
  abbrev pub IsCommitRun : List (Did M) → Type 0
  IsCommitRun ds = (before : List (Did M)) × (d : Did M) × (ds ≡ before ++ d ∷ []) × Each IsMore before × IsThink kind.CommitOne d × (finds_none d ≡ true)

  -- the tasks of a step that was done
  abbrev pub Takes : Step M → List (Did M) → Type 0
  Takes (step.Event k) ds = IsOne k ds
  Takes step.Commits ds = IsCommitRun ds
  Takes step.MaybeCommits ds = (ds ≡ []) ⊎ IsCommitRun ds
  Takes step.MaybeBeat ds = (ds ≡ []) ⊎ IsOne kind.Beat ds

  -- the tasks of a step within which the turn was cut: its last one may be one that was refused
  abbrev pub Part : Step M → List (Did M) → Type 0
  Part (step.Event k) ds = (ds ≡ []) ⊎ IsOne k ds
  Part step.Commits ds = Each IsMore ds
  Part step.MaybeCommits ds = Each IsMore ds
  Part step.MaybeBeat ds = (ds ≡ []) ⊎ IsOne kind.Beat ds

  -- the tasks of several steps, in their order
  abbrev pub Goes : List (Step M) → List (Did M) → Type 0
  Goes [] ds = ds ≡ []
  Goes (p ∷ ps) ds = (xs : List (Did M)) × (es : List (Did M)) × (ds ≡ xs ++ es) × Takes p xs × Goes ps es

  -- the tasks of a whole turn: its steps, and one flush that was Ok
  abbrev pub IsTurn : List (Step M) → List (Did M) → Type 0
  IsTurn ps ds = (thinks : List (Did M)) × (n : ℕ) × (ds ≡ thinks ++ (task.Flush, Ok (answer.Kept n)) ∷ []) × Goes ps thinks

  -- the tasks of steps that were cut within one of them
  abbrev pub Stops : List (Step M) → List (Did M) → Type 0
  Stops ps ds = (done : List (Step M)) × (p : Step M) × (rest : List (Step M)) × (xs : List (Did M)) × (es : List (Did M))
      × (ps ≡ done ++ p ∷ rest) × (ds ≡ xs ++ es) × Goes done xs × Part p es

  -- the tasks of a turn that was cut before its flush was Ok
  abbrev pub IsCut : List (Step M) → List (Did M) → Type 0
  IsCut ps ds = Stops ps ds ⊎ ((xs : List (Did M)) × (es : List (Did M)) × (ds ≡ xs ++ es) × Goes ps xs × ((es ≡ []) ⊎ ((d : Did M) × (es ≡ d ∷ []) × (d.0 ≡ task.Flush))))
