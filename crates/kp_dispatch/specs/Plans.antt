-- The steps of each worker's turns (this project's own).
use Rattle.std.specs.Prelude.{ℕ, List, [], ◌∷◌, ◌++◌, Bool, true, false, Option, Some, None}
use Rattle.kp_event.specs.declared.event.NodeEventKind.TheVariants as kind
use Rattle.kp_io.specs.Streams.{Piece}
use Rattle.kp_io.specs.Streams as piece
use Rattle.kp_shared.specs.declared.plan.Step.{Step}
use Rattle.kp_shared.specs.declared.plan.Step.TheVariants as step

module _ {M : Type 0} where
  -- what came is thought, where something came, and then commits and a Beat where they are worth while
  abbrev pub front_plan : ℕ → Option (List ℕ) → List (Step M)
  front_plan conn None = []
  front_plan conn (Some bytes) = step.Event (kind.Client conn bytes) ∷ step.MaybeCommits ∷ step.MaybeBeat ∷ []

  -- behind it the connection is drained
  abbrev pub round_plan : ℕ → Option (List ℕ) → List (Step M)
  round_plan conn p = front_plan conn p ++ step.Event (kind.Drain conn) ∷ []

  -- the turn of a connection's worker for an answer of its stream
  abbrev pub plan_for : ℕ → Piece → List (Step M)
  plan_for conn (piece.Bytes bytes) = round_plan conn (Some bytes)
  plan_for conn piece.Later = round_plan conn None
  plan_for conn piece.End = []

  -- one event where it is asked for
  abbrev pub if_asked : Step M → Bool → List (Step M)
  if_asked p true = p ∷ []
  if_asked p false = []

  -- a ticker's turn: a Timeout where asked, a Beat, commits until none is left, an ExpireDue, and a Snapshot where asked
  abbrev pub tick_plan : Bool → Bool → List (Step M)
  tick_plan timeout snapshot = if_asked (step.Event kind.Timeout) timeout
      ++ (step.Event kind.Beat ∷ step.Commits ∷ step.Event kind.ExpireDue ∷ if_asked (step.Event kind.Snapshot) snapshot)

  -- a link worker's turn: a Deliver of the message, commits until none is left, and a Beat where it is worth while
  abbrev pub carry_plan : M → List (Step M)
  carry_plan m = step.Event (kind.Deliver m) ∷ step.Commits ∷ step.MaybeBeat ∷ []
