-- What a request at the front of a queue is answered.
use Rattle.std.specs.Prelude.{ℕ, ℤ, pos, negsuc, Bool, true, false, ◌&&◌, if◌then◌else◌, List, [], map, Option, Some, None}
use Rattle.std.specs.Ordering.{int_eq}
use Rattle.kp_model.specs.declared.command.Cmd.{Cmd}
use Rattle.kp_model.specs.declared.read.ReadCmd.{ReadCmd}
use Rattle.kp_model.specs.declared.read.ReadReply.{ReadReply}
use Rattle.kp_model.specs.declared.read.ReadReply.TheVariants as told
use Rattle.kp_model.specs.declared.reply.Event.{Event}
use Rattle.kp_model.specs.Errors.{no_node, session_expired}
use Rattle.kp_model.specs.Reads.{read_answer}
use Rattle.kp_model.specs.State.{State}
use Rattle.kp_wire.specs.declared.request.WireAsk.{WireAsk}
use Rattle.kp_wire.specs.declared.request.WireAsk.TheVariants as ask
use Rattle.kp_wire.specs.declared.reply.WireReply.{WireReply}
use Rattle.kp_wire.specs.declared.reply.WireReply.TheVariants as sent
use Rattle.kp_ask.specs.Asks.{command, question, wants_watch}
use Rattle.kp_ask.specs.Answers.{told_to}
use Rattle.kp_ask.specs.Given.{given, given_paths, given_index}
use Rattle.kp_watch.specs.declared.kind.Kind.{Kind}
use Rattle.kp_watch.specs.declared.kind.Kind.TheVariants as kind
use Rattle.kp_watch.specs.declared.watch.Watch.{Watch}
use Rattle.kp_watch.specs.Watching.{Firing, added, set_again}
use Rattle.kp_conn.specs.declared.waiting.Mark.{Mark}
use Rattle.kp_conn.specs.declared.waiting.Waiting.{Waiting}

-- the codes of the protocol that no tree answers: -4, the connection has lost its leader; -6, there is no such request; -118, the session was taken over
abbrev pub connection_loss : ℤ
connection_loss = negsuc 3

abbrev pub unimplemented : ℤ
unimplemented = negsuc 5

abbrev pub session_moved : ℤ
session_moved = negsuc 117

-- why a request is answered as it is
pub data Cause : Type 0 where
  -- it asks a question, or what is no write: it is answered on the committed state
  by_state : Cause
  -- its entry was applied
  by_entry : Cause
  -- it is a write, and when it was handed in no leader was known or no number was left
  by_lack : Cause
  -- the term rose while it waited
  by_term : Cause
  -- its session was taken over while it waited
  by_move : Cause
  -- its session expired while it waited
  by_end : Cause

-- the code of a request that is refused
abbrev pub code_of : Cause → ℤ
code_of by_state = pos 0
code_of by_entry = pos 0
code_of by_lack = connection_loss
code_of by_term = connection_loss
code_of by_move = session_moved
code_of by_end = session_expired

-- an answer, the events that go out before it, and the watches behind it
pub record Answer : Type 0 where
  pub cause : Cause
  pub reply : WireReply
  pub events : List Event
  pub watches : List Watch

abbrev pub plain : Cause → List Watch → WireReply → Answer
plain cause ws r = record { cause = cause; reply = r; events = []; watches = ws }

-- ---- questions

-- the kind of watch that a question sets
abbrev pub kind_of : WireAsk → Kind
kind_of (ask.GetChildren path watch) = kind.Child
kind_of (ask.GetChildren2 path watch) = kind.Child
kind_of _ = kind.Data

abbrev pub path_of : WireAsk → List ℕ
path_of (ask.Exists path watch) = given path
path_of (ask.GetData path watch) = given path
path_of (ask.GetChildren path watch) = given path
path_of (ask.GetChildren2 path watch) = given path
path_of _ = []

abbrev pub is_exists : WireAsk → Bool
is_exists (ask.Exists path watch) = true
is_exists _ = false

-- a watch is set where the question is answered, and by exists where there is no node too
abbrev pub lets_watch : WireAsk → ReadReply → Bool
lets_watch a (told.Err code) = is_exists a && int_eq code no_node
lets_watch a (told.Stat m) = true
lets_watch a (told.Data bytes m) = true
lets_watch a (told.Acl acl m) = true
lets_watch a (told.Names names m) = true

-- the watches behind a question of connection k
abbrev pub watching_by : ℕ → WireAsk → ReadReply → List Watch → List Watch
watching_by k a r ws = if wants_watch a && lets_watch a r then added ws (record { path = path_of a; kind = kind_of a; conn = k }) else ws

abbrev pub asked_by : ℕ → WireAsk → List Watch → ReadReply → Answer
asked_by k a ws r = record { cause = by_state; reply = told_to a r; events = []; watches = watching_by k a r ws }

-- ---- what is neither a question nor a write

abbrev pub set_by : Firing → Answer
set_by f = record { cause = by_state; reply = sent.Empty; events = map (λ (x : ℕ × Event). x.1) f.pairs; watches = f.left }

abbrev pub other_answer : State → ℕ → List Watch → WireAsk → Answer
other_answer s k ws ask.Ping = plain by_state ws sent.Empty
other_answer s k ws (ask.SetWatches since contents exist child) = set_by (set_again ws s.nodes k (given_index since) (given_paths contents) (given_paths exist) (given_paths child))
other_answer s k ws _ = plain by_state ws (sent.Err unimplemented)

abbrev pub look_answer : State → ℕ → ℕ → List Watch → WireAsk → Option ReadCmd → Answer
look_answer s session k ws a None = other_answer s k ws a
look_answer s session k ws a (Some q) = asked_by k a ws (read_answer s session q)

-- what connection k of the session is answered on a state, where it asks for no write
unfoldable pub state_answer : State → ℕ → ℕ → List Watch → WireAsk → Answer
state_answer s session k ws a = look_answer s session k ws a (question a)

-- ---- the front of a queue

-- what has no number: a write is refused, all else is answered on the state
abbrev pub unmarked : List Watch → Option Cmd → Answer → Answer
unmarked ws None read = read
unmarked ws (Some c) read = plain by_lack ws (sent.Err connection_loss)

abbrev pub unless_marked : Option Mark → Answer → Option Answer
unless_marked None a = Some a
unless_marked (Some m) a = None

abbrev pub answer_by : List Watch → Option WireReply → Option Mark → Answer → Option Answer
answer_by ws (Some r) mark a = Some (plain by_entry ws r)
answer_by ws None mark a = unless_marked mark a

-- what the front is answered; None where it is a write whose entry isn't applied
unfoldable pub answer_of : State → ℕ → ℕ → List Watch → Waiting → Option Answer
answer_of s session k ws w = answer_by ws w.reply w.mark (unmarked ws (command w.request.ask) (state_answer s session k ws w.request.ask))
