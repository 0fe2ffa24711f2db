-- A turn of a node's worker: events that are thought one behind the other, and one flush behind them (this project's own).
use Rattle.std.specs.Prelude.{◌≡◌, ◌⊎◌, ℕ, Bool, true, false, List, [], ◌∷◌, ◌++◌, Option, Some, None, Result, Ok, Err, ⊤}
use Rattle.kp_turn.specs.TurnSeats.{view}
use Rattle.kp_turn.specs.TurnView.{IsFull}
use Rattle.kp_event.specs.declared.event.NodeEventKind.{NodeEventKind}
use Rattle.kp_event.specs.declared.event.NodeEventKind.TheVariants as kind
use Rattle.kp_event.specs.declared.fail.KeptFail.{KeptFail}
use Rattle.kp_event.specs.declared.fail.KeptFail.TheVariants as fail
use Rattle.kp_event.specs.declared.thought.Thought.{Thought}
use Rattle.kp_event.specs.Kinds.{row_of_kind, row_of_said}
use Rattle.kp_shared.specs.Letters.{Letter}
use Rattle.kp_shared.specs.declared.refusal.Refusal.{Refusal}
use Rattle.kp_shared.specs.declared.refusal.Refusal.TheVariants as refusal
use Rattle.kp_shared.specs.declared.task.Task.{Task}
use Rattle.kp_shared.specs.declared.task.Task.TheVariants as task
use Rattle.kp_shared.specs.declared.task.Answer.TheVariants as answer
use Rattle.kp_shared.specs.TaskSteps.{Answered}
use Rattle.kp_shared.specs.Tasks.{Did, Each, InTime, IsThink, is_none_left}
use Rattle.kp_shared.specs.Ends.{IsUntorn}
use Rattle.kp_shared.specs.Nodes.{Does, TurnSeatIn, ViewIn}
use Rattle.kp_worker.specs.declared.note.Note.{Note}
use Rattle.kp_worker.specs.Lists.{Begins}
use Rattle.kp_worker.specs.Outside.{Outside}
use Rattle.kp_worker.specs.Events.{Passes, delivered, draws, fed, kinds}
use Rattle.kp_worker.specs.Notes.{is_end, mark_of, notes}

-- an event was thought, and says what belongs to it; or it was left out, since the node had no memory for it
abbrev pub IsDone : {M : Type 0} → Did M → Type 0
IsDone (task.Think e, Ok (answer.Thought t)) = row_of_said t.said ≡ row_of_kind e.kind
IsDone (task.Think e, Ok (answer.Kept n)) = ⊥
IsDone (task.Think e, Err fail.NoMemory) = ⊤
IsDone (task.Think e, Err fail.DiskFault) = ⊥
IsDone (task.Think e, Err (fail.Full s n)) = ⊥
IsDone (task.Think e, Err (fail.Dead w)) = ⊥
IsDone (task.Flush, a) = ⊥

-- no commit comes behind this task: it found no further entry, or was refused
abbrev pub ends_commits : {M : Type 0} → Did M → Bool
ends_commits (t, Ok (answer.Thought u)) = is_none_left u.said
ends_commits (t, Ok (answer.Kept n)) = false
ends_commits (t, Err f) = true

module _ {M : Type 0} where
  -- a commit that is not the last
  abbrev pub IsMore : Did M → Type 0
  IsMore d = IsThink kind.CommitOne d × (ends_commits d ≡ false)

  -- commits, of which the last alone found no further entry, or was left out
  abbrev pub IsCommits : List (Did M) → Type 0
  IsCommits ds = (before : List (Did M)) × (d : Did M) × (ds ≡ before ++ d ∷ []) × Each IsMore before × IsThink kind.CommitOne d × (ends_commits d ≡ true)

  -- the tasks of a whole turn: what came, commits until none is left, a Beat and Drains, and one flush that was Ok
  pub record IsTurn (t : List (Did M)) : Type 0 where
    pub front : List (Did M)
    pub commits : List (Did M)
    pub behind : List (Did M)
    pub number : ℕ
    pub parts : t ≡ (front ++ (commits ++ behind)) ++ (task.Flush, Ok (answer.Kept number)) ∷ []
    pub done : Each IsDone (front ++ (commits ++ behind))
    pub committed : IsCommits commits

  -- events that the outside doesn't ask for, and that the state of each connection allows and leaves
  pub record Harmless (o : Outside) (ks : List (NodeEventKind M)) : Type 0 where
    pub feeds : fed ks ≡ []
    pub delivers : delivered ks ≡ []
    pub accepts : draws ks ≡ []
    pub lives : (c : ℕ) → Passes c (o.state c) ks (o.state c)

-- harmless events stand behind others
abbrev pub AddsHarmless : {M : Type 0} → Outside → List (NodeEventKind M) → List (NodeEventKind M) → Type 0
AddsHarmless {M} o ks ks' = (more : List (NodeEventKind M)) × (ks' ≡ ks ++ more) × Harmless o more

-- what a think is answered whose thought is this, or none for want of memory
abbrev pub answer_of : {M : Type 0} → Option (Thought (Letter M)) → Answered M
answer_of (Some t) = Ok (answer.Thought t)
answer_of None = Err fail.NoMemory

abbrev pub FitsKind : {M : Type 0} → NodeEventKind M → Option (Thought (Letter M)) → Type 0
FitsKind k (Some t) = row_of_said t.said ≡ row_of_kind k
FitsKind k None = ⊤

module _ {S M : Type 0} where
  -- how a turn is cut: its last task was refused; or the history is full, or memory ran out
  abbrev pub Refused : Refusal → ViewIn S M → List (Did M) → Type 0
  Refused r w last = ((t : Task M) × (f : KeptFail) × (last ≡ (t, Err f) ∷ []) × (r ≡ refusal.Failed f) × IsUntorn f)
      ⊎ ((last ≡ []) × (((r ≡ refusal.Worn) × IsFull w) ⊎ (r ≡ refusal.Failed fail.NoMemory)))

  module _ (may : ℕ → Type 0) (v w : ViewIn S M) where
    -- these events were thought, or left out for want of memory, and wait for their flush
    pub record Thinks (ds : List (Did M)) : Type 0 where
      pub does : Does v w ds
      pub times : Each (InTime may) ds
      pub done : Each IsDone ds

    -- the same, and then a task was refused, or none was asked for
    pub record Breaks (r : Refusal) (ds last : List (Did M)) : Type 0 where
      pub does : Does v w (ds ++ last)
      pub times : Each (InTime may) (ds ++ last)
      pub done : Each IsDone ds
      pub why : Refused r w last

  module _ (may : ℕ → Type 0) (s s' : TurnSeatIn S M) where
    -- a turn was cut of which these events were planned, and maybe some that are harmless
    abbrev pub CutTells : Outside → List (NodeEventKind M) → Refusal → Type 0
    CutTells o ks r = (ds : List (Did M)) × (last : List (Did M)) × (more : List (NodeEventKind M)) × Harmless o more × Begins (kinds (ds ++ last)) (ks ++ more)
        × Breaks may (view s) (view s') r ds last

    -- one event was thought, or left out; or the turn is cut there
    abbrev pub OneTells : NodeEventKind M → Result (Note M) Refusal → Type 0
    OneTells k (Ok n) = (now : ℕ) × may now × (n.mark ≡ mark_of k) × FitsKind k n.thought
        × Does (view s) (view s') ((task.Think record { now = now; kind = k }, answer_of n.thought) ∷ [])
    OneTells k (Err r) = (last : List (Did M)) × Each (IsThink k) last × Begins (kinds last) (k ∷ []) × Breaks may (view s) (view s') r [] last

    module _ (b b' : List (Note M)) where
      -- the same, and its note stands behind others; the answer is whether no commit comes behind it
      abbrev pub MoreTells : NodeEventKind M → Result Bool Refusal → Type 0
      MoreTells k (Ok e) = (n : Note M) × (b' ≡ b ++ n ∷ []) × (e ≡ is_end n.thought) × OneTells k (Ok n)
      MoreTells k (Err r) = OneTells k (Err r)

      -- these events were thought, or left out; or the turn is cut there
      abbrev pub AllTells : List (NodeEventKind M) → Result (Unit {0}) Refusal → Type 0
      AllTells ks (Ok u) = (ds : List (Did M)) × (kinds ds ≡ ks) × (b' ≡ b ++ notes ds) × Thinks may (view s) (view s') ds
      AllTells ks (Err r) = (ds : List (Did M)) × (last : List (Did M)) × Begins (kinds (ds ++ last)) ks × Breaks may (view s) (view s') r ds last

      -- commits were taken until none is left; or the turn is cut there
      abbrev pub CommitTells : Result (Unit {0}) Refusal → Type 0
      CommitTells (Ok u) = (ds : List (Did M)) × IsCommits ds × (b' ≡ b ++ notes ds) × Thinks may (view s) (view s') ds
      CommitTells (Err r) = (ds : List (Did M)) × (last : List (Did M)) × Each (IsThink kind.CommitOne) (ds ++ last) × Breaks may (view s) (view s') r ds last

    -- what came was thought, with commits behind it; or the turn is cut there
    abbrev pub FrontTells : Outside → List (NodeEventKind M) → List (Note M) → Result (Unit {0}) Refusal → Type 0
    FrontTells o ks ns (Ok u) = (front : List (Did M)) × (commits : List (Did M)) × (kinds front ≡ ks) × IsCommits commits × (ns ≡ notes (front ++ commits))
        × Thinks may (view s) (view s') (front ++ commits)
    FrontTells o ks ns (Err r) = CutTells o ks r

    -- harmless events were thought behind others; or the turn is cut there
    abbrev pub BehindTells : Outside → List (Note M) → List (Note M) → Result (Unit {0}) Refusal → Type 0
    BehindTells o b b' (Ok u) = (ds : List (Did M)) × Harmless o (kinds ds) × (b' ≡ b ++ notes ds) × Thinks may (view s) (view s') ds
    BehindTells o b b' (Err r) = CutTells o [] r

    -- the whole turn was thought; or it is cut
    abbrev pub OpenTells : Outside → List (NodeEventKind M) → List (Note M) → Result (Unit {0}) Refusal → Type 0
    OpenTells o ks ns (Ok u) = (front : List (Did M)) × (commits : List (Did M)) × (behind : List (Did M)) × (kinds front ≡ ks) × IsCommits commits × Harmless o (kinds behind)
        × (ns ≡ notes (front ++ (commits ++ behind))) × Thinks may (view s) (view s') (front ++ (commits ++ behind))
    OpenTells o ks ns (Err r) = CutTells o ks r

    -- one whole turn of these events, and maybe some that are harmless; or it is cut
    abbrev pub KeptTells : {A : Type 0} → (A → List (Note M)) → Outside → List (NodeEventKind M) → Result A Refusal → Type 0
    KeptTells items o ks (Ok ns) = (t : List (Did M)) × (more : List (NodeEventKind M)) × IsTurn t × (kinds t ≡ ks ++ more) × Harmless o more × (items ns ≡ notes t)
        × Does (view s) (view s') t × Each (InTime may) t
    KeptTells items o ks (Err r) = CutTells o ks r
