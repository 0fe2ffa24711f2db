-- Runs of a world of three members, with images that are their states.
use Rattle.std.specs.Prelude.{◌≡◌, ℕ, List, [], ◌∷◌, ◌++◌, None}
use Rattle.kp_model.specs.declared.entry.Body.TheVariants as body
use Rattle.kp_model.specs.LogEntry.{LogEntry}
use Rattle.kp_model.specs.State.{State}
use Rattle.kp_raft.specs.declared.mail.Mail.{Mail}
use Rattle.kp_event.specs.declared.event.NodeEventKind.{NodeEventKind}
use Rattle.kp_event.specs.declared.event.NodeEventKind.TheVariants as kind
use Rattle.kp_step.specs.Choices.{Choices}
use Rattle.kp_step.specs.Node.{Images}
use Rattle.kp_step.specs.Asking.{Words}
use Rattle.kp_cluster.specs.World.{World, Event, Does, Tears, Starts, At, Comes, world_after}

-- an image is its state with a term
abbrev pub Image : Type 0
Image = State × ℕ

abbrev pub keeping : Images Image
keeping = record { shows = λ i. i.0; term = λ i. i.1; made = λ s t. (s, t) }

abbrev pub wordless : Words
wordless = λ x w. []

-- memory is found for everything
abbrev pub ample : Choices
ample = record { room = None; luck = λ k. record { events = None; requests = None; answers = None } }

-- an event of a member's own, at time 0
abbrev pub own : ℕ → NodeEventKind (Mail Image) → Event Image
own k v = Does ample (At k (record { now = 0; kind = v }))

-- the i-th message that was sent, the last one first, comes to its receiver
abbrev pub comes : ℕ → Event Image
comes i = Does ample (Comes i 0)

-- the world of three members behind these events
abbrev pub after_run : List (Event Image) → World Image
after_run es = world_after wordless keeping 3 es

-- the no-op of the leader of a term
abbrev pub noop : ℕ → LogEntry
noop term = record { term = term; time = 0; body = body.Noop }

-- what a member has applied
abbrev pub applied_by : List (Event Image) → ℕ → List LogEntry
applied_by es k = ((after_run es).members k).done

-- member 1 is elected by member 2, which takes its no-op and answers; member 1 tells it that this is committed, and both apply it
abbrev pub commit : List (Event Image)
commit = own 1 kind.Timeout ∷ comes 0 ∷ comes 0 ∷ own 1 kind.Beat ∷ comes 0 ∷ comes 0 ∷ own 1 kind.Beat ∷ comes 0 ∷ own 1 kind.CommitOne ∷ own 2 kind.CommitOne ∷ []

-- two members apply the entry while the third lags
pub record EntryIsApplied : Type 0 where
  pub one : applied_by commit 1 ≡ noop 1 ∷ []
  pub two : applied_by commit 2 ≡ noop 1 ∷ []
  pub three : applied_by commit 3 ≡ []

-- member 1 makes a snapshot and sends its image to member 3, which lags and takes it
abbrev pub install : List (Event Image)
install = commit ++ own 1 kind.Snapshot ∷ own 1 kind.Beat ∷ comes 1 ∷ []

-- member 3 stops in a step of which no record stays, and starts again
abbrev pub restart : List (Event Image)
restart = install ++ Tears ample (At 3 (record { now = 0; kind = kind.Timeout })) 0 ∷ Starts 3 0 ∷ []

-- what the third has applied, behind the image and behind the start, the base of its log, and how often it was started
pub record ImageIsTaken : Type 0 where
  pub taken : applied_by install 3 ≡ noop 1 ∷ []
  pub kept : applied_by restart 3 ≡ noop 1 ∷ []
  pub base : ((after_run restart).members 3).stored.held.log.base ≡ 1
  pub boot : ((after_run restart).members 3).boot ≡ 2
