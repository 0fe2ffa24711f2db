-- Steps in which nothing runs out, and what is said of them.
use Rattle.std.specs.Prelude.{◌≡◌, ℕ, List, [], ◌∷◌, map, None}
use Rattle.kp_model.specs.State.{State}
use Rattle.kp_entry.specs.Held.{Held}
use Rattle.kp_raft.specs.declared.mail.Mail.{Mail}
use Rattle.kp_event.specs.declared.event.NodeEvent.{NodeEvent}
use Rattle.kp_step.specs.Choices.{Choices}
use Rattle.kp_step.specs.Node.{Node, Seats, Images}
use Rattle.kp_step.specs.Asking.{Words}
use Rattle.kp_step.specs.Step.{Stepped, step, count_lost}
use Rattle.kp_step.specs.Runs.{Run, run, with_step, at_start, begun}

-- the choices with which all of an append and each act of each connection find memory
abbrev pub ample : Choices
ample = record { room = None; luck = λ k. record { events = None; requests = None; answers = None } }

-- none of these connections was given up for want of memory
abbrev pub NoneIsLost : Seats → Type 0
NoneIsLost seats = count_lost seats ≡ 0

module _ {I : Type 0} where
  -- a step that takes all of an append, and gives up no connection
  pub record GivesUpNone (o : Stepped I) : Type 0 where
    pub whole : o.cut ≡ None
    pub none : o.lost ≡ 0

  -- each step of a run does so
  abbrev pub RunGivesUpNone : Words → Images I → Run → List (Choices × NodeEvent (Mail I)) → Type 0
  RunGivesUpNone words im r [] = Unit {0}
  RunGivesUpNone words im r (e ∷ es) = GivesUpNone (step words im e.0 r.node e.1) × RunGivesUpNone words im (with_step im r (step words im e.0 r.node e.1)) es

  -- the events of a run, with nothing that runs out
  abbrev pub amply : List (Choices × NodeEvent (Mail I)) → List (Choices × NodeEvent (Mail I))
  amply es = map (λ e. (ample, e.1)) es

-- ---- the laws

-- a step that gives up none, of a node of which none was given up before, is the one in which nothing runs out
abbrev pub StepsAreAmple : Type 0 → Type 0
StepsAreAmple I = (words : Words) (im : Images I) (ch : Choices) (x : Node) (v : NodeEvent (Mail I))
    → NoneIsLost x.seats → GivesUpNone (step words im ch x v) → step words im ch x v ≡ step words im ample x v

-- so two such steps of one node at one event are one
abbrev pub StepsAreAlike : Type 0 → Type 0
StepsAreAlike I = (words : Words) (im : Images I) (ch other : Choices) (x : Node) (v : NodeEvent (Mail I))
    → NoneIsLost x.seats → GivesUpNone (step words im ch x v) → GivesUpNone (step words im other x v) → step words im ch x v ≡ step words im other x v

-- what is so of the step in which nothing runs out
pub record KeepsAll {I : Type 0} (o : Stepped I) : Type 0 where
  pub gives_up : GivesUpNone o
  pub behind : NoneIsLost o.node.seats

abbrev pub AmpleGivesUpNone : Type 0 → Type 0
AmpleGivesUpNone I = (words : Words) (im : Images I) (x : Node) (v : NodeEvent (Mail I)) → NoneIsLost x.seats → KeepsAll (step words im ample x v)

-- a run that gives up none is the one of its events in which nothing runs out
abbrev pub RunsAreAmple : Type 0 → Type 0
RunsAreAmple I = (words : Words) (im : Images I) (r : Run) (es : List (Choices × NodeEvent (Mail I)))
    → NoneIsLost r.node.seats → RunGivesUpNone words im r es → run words im r es ≡ run words im r (amply es)

-- the same from a start on
abbrev pub StartedRunsAreAmple : Type 0 → Type 0
StartedRunsAreAmple I = (words : Words) (im : Images I) (me members boot now : ℕ) (held : Held) (s : State) (es : List (Choices × NodeEvent (Mail I)))
    → RunGivesUpNone words im (at_start (begun me members boot now held s)) es → run words im (at_start (begun me members boot now held s)) es ≡ run words im (at_start (begun me members boot now held s)) (amply es)

-- what is so of a run in which nothing runs out
pub record RunKeepsAll {I : Type 0} (words : Words) (im : Images I) (r : Run) (es : List (Choices × NodeEvent (Mail I))) : Type 0 where
  pub gives_up : RunGivesUpNone words im r (amply es)
  pub behind : NoneIsLost (run words im r (amply es)).node.seats

abbrev pub AmpleRunsGiveUpNone : Type 0 → Type 0
AmpleRunsGiveUpNone I = (words : Words) (im : Images I) (r : Run) (es : List (Choices × NodeEvent (Mail I))) → NoneIsLost r.node.seats → RunKeepsAll words im r es
