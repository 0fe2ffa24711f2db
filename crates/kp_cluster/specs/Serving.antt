-- Which sessions the live connections of a node serve, and of which epochs its answers are.
use mathlib.Core.List.{IsPrefix}
use Rattle.std.specs.Prelude.{◌≡◌, ◌⊎◌, ◌<◌, ◌≤◌, ◌+◌, ◌==◌, ℕ, true, false, List, [], ◌∷◌, ◌++◌, length, Option, Some, None}
use Rattle.std.specs.List.{AllByRecursion}
use Rattle.std.specs.FinMap as map
use Rattle.kp_model.specs.declared.session.Session.{Session}
use Rattle.kp_model.specs.declared.session.Origin.{Origin}
use Rattle.kp_model.specs.declared.command.Cmd.TheVariants as cmd
use Rattle.kp_model.specs.declared.entry.Body.TheVariants as body
use Rattle.kp_model.specs.LogEntry.{LogEntry}
use Rattle.kp_model.specs.State.{State, empty, same_origin}
use Rattle.kp_model.specs.Step.{apply}
use Rattle.kp_model.specs.Store.{after}
use Rattle.kp_model.specs.Taken.{is_stale}
use Rattle.kp_entry.specs.Held.{Held}
use Rattle.kp_raft.specs.declared.mail.Mail.{Mail}
use Rattle.kp_event.specs.declared.event.NodeEvent.{NodeEvent}
use Rattle.kp_conn.specs.declared.phase.Phase.{Phase}
use Rattle.kp_conn.specs.declared.phase.Phase.TheVariants as phase
use Rattle.kp_conn.specs.declared.waiting.Waiting.{Waiting}
use Rattle.kp_conn.specs.Connection.{Connection, is_over}
use Rattle.kp_conn.specs.Queue.{awaited, is_close}
use Rattle.kp_step.specs.declared.seat.Seat.{Seat}
use Rattle.kp_step.specs.Answers.{Cause, by_move}
use Rattle.kp_step.specs.Choices.{Choices}
use Rattle.kp_step.specs.Node.{Node, Images}
use Rattle.kp_step.specs.Asking.{Words}
use Rattle.kp_step.specs.Settling.{Told}
use Rattle.kp_step.specs.Step.{step}
use Rattle.kp_step.specs.Runs.{Run, begun, at_start, done_by, base_behind, done_behind, with_step, run}
use Rattle.kp_cluster.specs.Epochs.{IsNumbered, last_epoch, IsShown, IsAttach}

-- ---- a live connection

-- connection k of a run of a member
abbrev pub conn_at : ℕ → ℕ → ℕ → Origin
conn_at me boot k = record { node = me; boot = boot; conn = k }

-- behind the entries from a base on, which lead to the state, a connection serves a session in an epoch
pub record Serves (base : State) (done : List LogEntry) (s : State) (mine : Origin) (id epoch : ℕ) : Type 0 where
  -- the session's number was given out, and isn't 0, which stands for no session
  pub given : id < s.next
  pub some : (id == 0) ≡ false
  -- the epoch is the one that the session has, or had last where it is gone
  pub last : last_epoch base done id ≡ Some epoch
  -- a session that lives has exactly this epoch, and is held by this connection
  pub current : (x : Session) → map.get s.sessions id ≡ Some x → (x.epoch ≡ epoch) × (same_origin x.holder mine ≡ true)

abbrev pub PhaseServes : State → List LogEntry → State → Origin → Phase → Type 0
PhaseServes base done s mine (phase.Live id epoch n) = Serves base done s mine id epoch
PhaseServes base done s mine p = Unit {0}

abbrev pub SeatServes : State → List LogEntry → State → Origin → Option Seat → Type 0
SeatServes base done s mine None = Unit {0}
SeatServes base done s mine (Some x) = PhaseServes base done s mine x.connection.phase

-- each live connection of a node does
abbrev pub AllServe : State → List LogEntry → Node → Type 0
AllServe base done x = (k : ℕ) → SeatServes base done x.state (conn_at x.me x.boot k) (map.get x.seats k)

-- ---- an answer

-- the committed state on which a step answers, and the entries up to it
abbrev pub state_behind : Option LogEntry → State → State
state_behind None s = s
state_behind (Some e) s = (apply s e).state

-- -118 is answered for the epoch that the session had before the entry, and all else for that which it has or had last behind it
abbrev pub entries_for : Cause → Option LogEntry → List LogEntry → List LogEntry
entries_for by_move e done = done
entries_for c e done = done_by e done

-- the state of which its epoch is: that before the entry, or that behind it
abbrev pub state_for : Cause → Option LogEntry → State → State
state_for by_move e s = s
state_for c e s = state_behind e s

pub record IsFrom (base : State) (done : List LogEntry) (s : State) (e : Option LogEntry) (t : Told) : Type 0 where
  -- the answer shows the index of the state on which the step answers
  pub index : t.zxid ≡ (state_behind e s).applied
  -- its epoch is the one that its session has there, or had last
  pub last : last_epoch base (entries_for t.cause e done) t.session ≡ Some t.epoch
  -- a session that lives there has exactly this epoch
  pub current : (x : Session) → map.get (state_for t.cause e s).sessions t.session ≡ Some x → x.epoch ≡ t.epoch

-- of an answer to a live connection
abbrev pub IsOfEpoch : State → List LogEntry → State → Option LogEntry → Told → Type 0
IsOfEpoch base done s e t = (t.session == 0) ≡ false → IsFrom base done s e t

-- ---- one step

-- what is known before a step: its sessions have numbers that were given out, its committed state is the replay of the entries, and its live connections serve their sessions
pub record IsServing (base : State) (done : List LogEntry) (x : Node) : Type 0 where
  pub numbered : IsNumbered x.state
  pub replay : x.state ≡ after base done
  pub serves : AllServe base done x

abbrev pub IsNumberedImage : {I : Type 0} → Images I → Option I → Type 0
IsNumberedImage im None = Unit {0}
IsNumberedImage im (Some i) = IsNumbered (im.shows i)

-- a node that was just started serves nobody
abbrev pub ServingBegins : Type 0
ServingBegins = (me members boot now : ℕ) (held : Held) (s : State) → IsNumbered s → IsServing s [] (begun me members boot now held s)

-- and each step keeps it so, where an image that is taken has none but sessions with numbers that were given out
abbrev pub ServingGoesOn : Type 0 → Type 0
ServingGoesOn I = (words : Words) (im : Images I) (ch : Choices) (x : Node) (v : NodeEvent (Mail I)) (base : State) (done : List LogEntry) → IsServing base done x → IsNumberedImage im (step words im ch x v).installed
    → IsServing (base_behind im (step words im ch x v).installed base) (done_behind (step words im ch x v).installed (step words im ch x v).applied done) (step words im ch x v).node

-- a history may begin before the base
abbrev pub ServingFromBefore : Type 0
ServingFromBefore = (start base : State) (front done : List LogEntry) (x : Node) → base ≡ after start front → IsServing base done x → IsServing start (front ++ done) x

-- ---- entries that are counted from the empty state on

-- what an image stands for, where one was taken
abbrev pub StandsFor : {I : Type 0} → Images I → List LogEntry → Option I → Type 0
StandsFor im list None = Unit {0}
StandsFor im list (Some i) = im.shows i ≡ after empty list

-- the entries behind a step: those that an image stands for that was taken, or one more where one was applied
abbrev pub entries_behind : {I : Type 0} → List LogEntry → Option I → Option LogEntry → List LogEntry → List LogEntry
entries_behind list None e done = done_by e done
entries_behind list (Some i) e done = list

abbrev pub StartsOnOneList : Type 0
StartsOnOneList = (me members boot now : ℕ) (held : Held) (s : State) (front : List LogEntry) → s ≡ after empty front → IsServing empty front (begun me members boot now held s)

abbrev pub StepsOnOneList : Type 0 → Type 0
StepsOnOneList I = (words : Words) (im : Images I) (ch : Choices) (x : Node) (v : NodeEvent (Mail I)) (done list : List LogEntry) → IsServing empty done x → StandsFor im list (step words im ch x v).installed
    → IsServing empty (entries_behind list (step words im ch x v).installed (step words im ch x v).applied done) (step words im ch x v).node

-- ---- what a step answers

abbrev pub AnswersAreOfTheirEpoch : Type 0 → Type 0
AnswersAreOfTheirEpoch I = (words : Words) (im : Images I) (ch : Choices) (x : Node) (v : NodeEvent (Mail I)) (base : State) (done : List LogEntry) → IsServing base done x
    → (k : ℕ) → AllByRecursion (λ (t : Told). IsOfEpoch base done x.state (step words im ch x v).applied t) ((step words im ch x v).told k)

-- an answer on one list of entries from the empty state on: it shows the index of the last, and is of the epoch there, or before it
abbrev pub IsShownOn : List LogEntry → Told → Type 0
IsShownOn es t = (t.session == 0) ≡ false → (t.zxid ≡ length es) × IsShown es t.zxid t.session t.epoch

-- the same on the one list, where that begins with the entries that the node has applied
abbrev pub AnswersAreShown : Type 0 → Type 0
AnswersAreShown I = (words : Words) (im : Images I) (ch : Choices) (x : Node) (v : NodeEvent (Mail I)) (done : List LogEntry) → IsServing empty done x
    → (k : ℕ) → AllByRecursion (λ (t : Told). IsShownOn (done_by (step words im ch x v).applied done) t) ((step words im ch x v).told k)

-- an answer keeps to the attaches of its session on a list: one of an older epoch shows at most the index of the attach, and one of its epoch or a newer one at least that
abbrev pub KeepsTo : List LogEntry → Told → Type 0
KeepsTo es t = (t.session == 0) ≡ false → (i new : ℕ) → IsAttach es i t.session new → (t.epoch < new → t.zxid ≤ i + 1) × (new ≤ t.epoch → i + 1 ≤ t.zxid)

-- each answer of a step does so, on any list that begins with the entries that the node has applied then, or begins them
abbrev pub AnswersKeepToAttaches : Type 0 → Type 0
AnswersKeepToAttaches I = (words : Words) (im : Images I) (ch : Choices) (x : Node) (v : NodeEvent (Mail I)) (done es : List LogEntry) → IsServing empty done x
    → IsPrefix (done_by (step words im ch x v).applied done) es ⊎ IsPrefix es (done_by (step words im ch x v).applied done)
    → (k : ℕ) → AllByRecursion (λ (t : Told). KeepsTo es t) ((step words im ch x v).told k)

-- ---- runs

-- each image that is taken on the way has none but sessions with numbers that were given out
unfoldable pub AreNumbered : {I : Type 0} → Words → Images I → Run → List (Choices × NodeEvent (Mail I)) → Type 0
AreNumbered words im r [] = Unit {0}
AreNumbered words im r (e ∷ es) = IsNumberedImage im (step words im e.0 r.node e.1).installed × AreNumbered words im (with_step im r (step words im e.0 r.node e.1)) es

-- in every run from a state whose sessions have numbers that were given out
abbrev pub ServingInRuns : Type 0 → Type 0
ServingInRuns I = (words : Words) (im : Images I) (me members boot now : ℕ) (held : Held) (s : State) → IsNumbered s
    → (es : List (Choices × NodeEvent (Mail I))) → AreNumbered words im (at_start (begun me members boot now held s)) es
    → let r = run words im (at_start (begun me members boot now held s)) es in IsServing r.base r.done r.node

-- ---- a close

-- the entry is a write that closes a session, and it isn't stale
pub record IsClose (x : Node) (e : LogEntry) (id epoch seq : ℕ) : Type 0 where
  pub body : e.body ≡ body.Write id epoch seq cmd.CloseSession
  pub timely : is_stale (apply x.state e).reply ≡ false

-- a connection serves the session in this epoch, and the first of its requests with this number is a close
pub record Awaits (c : Connection) (id epoch seq : ℕ) : Type 0 where
  pub next : ℕ
  pub phase : c.phase ≡ phase.Live id epoch next
  pub waiting : Waiting
  pub there : awaited seq c.queue ≡ Some waiting
  pub close : is_close waiting.request.ask ≡ true

-- an entry that closes a session ends the connection that awaits it
abbrev pub ClosesEndConnections : Type 0 → Type 0
ClosesEndConnections I = (words : Words) (im : Images I) (ch : Choices) (x : Node) (v : NodeEvent (Mail I)) (e : LogEntry) (id epoch seq k : ℕ) (s t : Seat)
    → (step words im ch x v).applied ≡ Some e → IsClose x e id epoch seq → map.get x.seats k ≡ Some s → Awaits s.connection id epoch seq
    → map.get (step words im ch x v).node.seats k ≡ Some t → is_over t.connection.phase ≡ true
