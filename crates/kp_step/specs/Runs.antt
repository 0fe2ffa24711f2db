-- Runs of a node: lists of events from a start on, and what is said of them.
use Rattle.std.specs.Prelude.{◌≡◌, ◌≤◌, ◌⊎◌, ℕ, List, [], ◌∷◌, ◌++◌, true, false, Option, Some, None, is_some, map}
use Rattle.std.specs.List.{AllByRecursion}
use Rattle.std.specs.FinMap as map
use Rattle.kp_model.specs.LogEntry.{LogEntry}
use Rattle.kp_model.specs.State.{State}
use Rattle.kp_model.specs.Store.{after}
use Rattle.kp_entry.specs.Held.{Held}
use Rattle.kp_raft.specs.declared.mail.Mail.{Mail}
use Rattle.kp_raft.specs.Parts.{started}
use Rattle.kp_event.specs.declared.event.NodeEvent.{NodeEvent}
use Rattle.kp_model.specs.Errors.{session_expired}
use Rattle.kp_ask.specs.Asks.{command}
use Rattle.kp_wire.specs.declared.reply.WireReply.TheVariants as sent
use Rattle.kp_wire.specs.declared.request.Request.{Request}
use Rattle.kp_watch.specs.declared.watch.Watch.{Watch}
use Rattle.kp_conn.specs.declared.waiting.Waiting.{Waiting}
use Rattle.kp_conn.specs.Connection.{is_over}
use Rattle.kp_step.specs.declared.seat.Seat.{Seat}
use Rattle.kp_step.specs.Choices.{Choices}
use Rattle.kp_step.specs.Node.{Node, Images, unapplied, latest}
use Rattle.kp_step.specs.Answers.{Cause, by_state, by_entry, by_lack, by_term, by_move, by_end, connection_loss, session_moved, state_answer}
use Rattle.kp_step.specs.Settling.{Told, is_at_rest}
use Rattle.kp_step.specs.Asking.{Words}
use Rattle.kp_step.specs.Step.{Stepped, step, all_heard}

-- a node that was just started with what it kept, and the state that its base stands for
abbrev pub begun : ℕ → ℕ → ℕ → ℕ → Held → State → Node
begun me members boot now held s = record {
  me = me;
  members = members;
  boot = boot;
  held = held;
  running = started held.log.base;
  state = s;
  seats = map.empty;
  next = 1;
  watches = [];
  heard = all_heard now s.sessions;
  spoken = [];
}

-- where a run has come to
pub record Run : Type 0 where
  pub node : Node
  -- all that each connection was answered, and all requests that joined its queue, in their order
  pub told : ℕ → List Told
  pub took : ℕ → List Request
  -- the state at the start, or that of the last image that was taken, and the entries that were applied since
  pub base : State
  pub done : List LogEntry

abbrev pub at_start : Node → Run
at_start x = record { node = x; told = λ k. []; took = λ k. []; base = x.state; done = [] }

abbrev pub done_by : Option LogEntry → List LogEntry → List LogEntry
done_by None es = es
done_by (Some e) es = es ++ e ∷ []

module _ {I : Type 0} where
  abbrev pub base_behind : Images I → Option I → State → State
  base_behind im None s = s
  base_behind im (Some image) s = im.shows image

  abbrev pub done_behind : Option I → Option LogEntry → List LogEntry → List LogEntry
  done_behind None e es = done_by e es
  done_behind (Some image) e es = []

  -- one event more, with its choices
  abbrev pub with_step : Images I → Run → Stepped I → Run
  with_step im r o = record {
    node = o.node;
    told = λ k. r.told k ++ o.told k;
    took = λ k. r.took k ++ o.took k;
    base = base_behind im o.installed r.base;
    done = done_behind o.installed o.applied r.done;
  }

  unfoldable pub run : Words → Images I → Run → List (Choices × NodeEvent (Mail I)) → Run
  run words im r [] = r
  run words im r (e ∷ es) = run words im (with_step im r (step words im e.0 r.node e.1)) es

-- ---- in the order of the requests

abbrev pub requests_of : List Waiting → List Request
requests_of q = map (λ (w : Waiting). w.request) q

abbrev pub answered_of : List Told → List Request
answered_of ts = map (λ (t : Told). t.request) ts

-- the first list is the second with some elements left out
abbrev pub IsPart : {A : Type 0} → List A → List A → Type 0
IsPart xs [] = xs ≡ []
IsPart [] (y ∷ ys) = Unit {0}
IsPart (x ∷ xs) (y ∷ ys) = ((x ≡ y) × IsPart xs ys) ⊎ IsPart (x ∷ xs) ys

-- the indexes that answers show begin at i or later, never fall, and end at j or before
abbrev pub NeverFall : ℕ → List Told → ℕ → Type 0
NeverFall i [] j = i ≤ j
NeverFall i (t ∷ ts) j = (i ≤ t.zxid) × NeverFall t.zxid ts j

-- what came of the requests of a run
pub record InOrder (r : Run) : Type 0 where
  -- of a connection that isn't over, each request that joined its queue was answered, in their order, or waits
  pub each : (k : ℕ) (s : Seat) → map.get r.node.seats k ≡ Some s → is_over s.connection.phase ≡ false → r.took k ≡ answered_of (r.told k) ++ requests_of s.connection.queue
  -- of any connection, those that were answered were so in their order, and each once
  pub part : (k : ℕ) → IsPart (answered_of (r.told k)) (r.took k)
  -- the indexes that its answers show never fall
  pub rise : (k : ℕ) → NeverFall 0 (r.told k) r.node.state.applied

-- ---- on one state

-- an answer by its cause: one that was found on a state is what the request, which is no write, is answered there; a refusal is its code, and -4 for want of a leader or a number is answered to a write alone
abbrev pub IsFoundOn : State → ℕ → Told → Cause → Type 0
IsFoundOn s k t by_state = (is_some (command t.request.ask) ≡ false) × (ws : List Watch) × (t.reply ≡ (state_answer s t.session k ws t.request.ask).reply)
IsFoundOn s k t by_entry = Unit {0}
IsFoundOn s k t by_lack = (is_some (command t.request.ask) ≡ true) × (t.reply ≡ sent.Err connection_loss)
IsFoundOn s k t by_term = t.reply ≡ sent.Err connection_loss
IsFoundOn s k t by_move = t.reply ≡ sent.Err session_moved
IsFoundOn s k t by_end = t.reply ≡ sent.Err session_expired

-- the index that the answer shows is the state's
abbrev pub IsToldOn : State → ℕ → Told → Type 0
IsToldOn s k t = (t.zxid ≡ s.applied) × IsFoundOn s k t t.cause

abbrev pub AreToldOn : State → ℕ → List Told → Type 0
AreToldOn s k ts = AllByRecursion (λ (t : Told). IsToldOn s k t) ts

-- the committed state on which a step answers: that behind the entry that it applies, or else the one before it
abbrev pub answering : Node → Node → Option LogEntry → State
answering old new None = old.state
answering old new (Some e) = new.state

-- ---- one tree

-- the committed state and the uncommitted one are replays of one list of entries
pub record IsReplay (r : Run) : Type 0 where
  pub committed : r.node.state ≡ after r.base r.done
  pub uncommitted : latest r.node ≡ after r.base (r.done ++ unapplied r.node)

-- ---- at rest

-- of each connection, nothing waits, or the front is a write whose entry isn't applied
abbrev pub IsResting : Option Seat → Type 0
IsResting None = Unit {0}
IsResting (Some s) = is_at_rest s.connection.queue ≡ true

abbrev pub AllRest : Node → Type 0
AllRest x = (k : ℕ) → IsResting (map.get x.seats k)

-- ---- the laws

-- what holds of each run from each start
abbrev pub OfRuns : Type 0 → (Run → Type 0) → Type 0
OfRuns I P = (words : Words) (im : Images I) (me members boot now : ℕ) (held : Held) (s : State) → s.applied ≡ held.log.base
    → (es : List (Choices × NodeEvent (Mail I))) → P (run words im (at_start (begun me members boot now held s)) es)

-- what holds of each event of each run
abbrev pub OfEvents : (I : Type 0) → (Node → Stepped I → Type 0) → Type 0
OfEvents I P = (words : Words) (im : Images I) (me members boot now : ℕ) (held : Held) (s : State) → s.applied ≡ held.log.base
    → (es : List (Choices × NodeEvent (Mail I))) (ch : Choices) (v : NodeEvent (Mail I))
    → P (run words im (at_start (begun me members boot now held s)) es).node (step words im ch (run words im (at_start (begun me members boot now held s)) es).node v)

abbrev pub RepliesAreInOrder : Type 0 → Type 0
RepliesAreInOrder I = OfRuns I InOrder

abbrev pub AnswersAreOfOneState : Type 0 → Type 0
AnswersAreOfOneState I = OfEvents I (λ x o. (k : ℕ) → AreToldOn (answering x o.node o.applied) k (o.told k))

abbrev pub StatesAreReplays : Type 0 → Type 0
StatesAreReplays I = OfRuns I IsReplay

abbrev pub ConnectionsRest : Type 0 → Type 0
ConnectionsRest I = OfRuns I (λ r. AllRest r.node)
