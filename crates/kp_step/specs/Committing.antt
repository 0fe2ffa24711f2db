-- An entry is applied: its events go out, then each connection learns what it means, and then all are settled.
use Rattle.std.specs.Prelude.{ℕ, ◌==◌, ◌&&◌, not, Bool, false, if◌then◌else◌, List, [], ◌∷◌, map, Option, Some, None}
use Rattle.std.specs.List.{filter}
use Rattle.std.specs.Ordering.{nat_cmp}
use Rattle.std.specs.FinMap as map
use Rattle.std.specs.FinMap.{FinMap}
use Rattle.kp_model.specs.declared.command.Cmd.TheVariants as cmd
use Rattle.kp_model.specs.declared.entry.Body.{Body}
use Rattle.kp_model.specs.declared.entry.Body.TheVariants as body
use Rattle.kp_model.specs.declared.reply.Event.{Event}
use Rattle.kp_model.specs.declared.reply.Reply.{Reply}
use Rattle.kp_model.specs.declared.reply.Reply.TheVariants as reply
use Rattle.kp_model.specs.declared.session.Origin.{Origin}
use Rattle.kp_model.specs.declared.session.Session.{Session}
use Rattle.kp_model.specs.LogEntry.{LogEntry}
use Rattle.kp_model.specs.State.{State, same_origin}
use Rattle.kp_model.specs.Step.{Outcome, apply}
use Rattle.kp_model.specs.Taken.{is_stale}
use Rattle.kp_expiry.specs.declared.heard.Heard.{Heard}
use Rattle.kp_ask.specs.Answers.{answer_to}
use Rattle.kp_watch.specs.Watching.{fired}
use Rattle.kp_conn.specs.declared.phase.Phase.{Phase}
use Rattle.kp_conn.specs.declared.phase.Phase.TheVariants as phase
use Rattle.kp_conn.specs.declared.waiting.Waiting.{Waiting}
use Rattle.kp_conn.specs.Connection.{Connection, is_over}
use Rattle.kp_conn.specs.Connection as conn
use Rattle.kp_conn.specs.Packets.{event_packet}
use Rattle.kp_conn.specs.Queue.{awaited}
use Rattle.kp_step.specs.Choices.{Choices}
use Rattle.kp_step.specs.declared.seat.Seat.{Seat}
use Rattle.kp_step.specs.Node.{Node, heard_at}
use Rattle.kp_step.specs.Answers.{by_move, by_end}
use Rattle.kp_step.specs.Settling.{Settled, stays, refused_if, given_out}
use Rattle.kp_step.specs.Handing.{Ground, Desk, ground, desk, greeted_as}
use Rattle.kp_step.specs.Tables.{Table, Row, tabled, with_served, with_row, settled_all}

-- ---- what an applied entry means for a connection

-- the packets of the events that connection k hears of, in their order
abbrev pub packets_for : ℕ → List (ℕ × Event) → List (List ℕ)
packets_for k pairs = map (λ (p : ℕ × Event). event_packet p.1) (filter (λ (p : ℕ × Event). p.0 == k) pairs)

-- an event for a connection that is closing is dropped
abbrev pub hears : Choices → List (ℕ × Event) → Row
hears ch pairs k c = if is_over c.phase then stays c else stays (given_out (ch.luck k).events (packets_for k pairs) c)

-- whether a connection serves the session, and in this epoch
abbrev pub is_of : ℕ → Phase → Bool
is_of session (phase.Live s e n) = s == session
is_of session p = false

abbrev pub is_in : ℕ → ℕ → Phase → Bool
is_in session epoch (phase.Live s e n) = s == session && e == epoch
is_in session epoch p = false

-- the write with the number keeps its answer
abbrev pub replied_in : ℕ → Reply → Connection → Option Waiting → Connection
replied_in seq r c None = c
replied_in seq r c (Some w) = conn.settled seq (answer_to w.request.ask r) c

abbrev pub replied_to : ℕ → Reply → Connection → Connection
replied_to seq r c = replied_in seq r c (awaited seq c.queue)

-- a write of the connection's session and epoch keeps its answer
abbrev pub written_to : ℕ → ℕ → ℕ → Reply → Connection → Settled
written_to session epoch seq r c = if is_in session epoch c.phase then stays (replied_to seq r c) else stays c

-- an attach that took the session over ends every other connection of it
abbrev pub attached_to : Choices → ℕ → Origin → Origin → ℕ → Reply → Row
attached_to ch zxid mine origin session (reply.Epoch epoch) k c = refused_if (is_of session c.phase && not (same_origin origin mine)) (ch.luck k).answers zxid by_move c
attached_to ch zxid mine origin session r k c = stays c

abbrev pub applied_to : Choices → ℕ → ℕ → ℕ → Body → Reply → Row
applied_to ch me boot zxid body.Noop r k c = stays c
applied_to ch me boot zxid (body.OpenSession timeout passwd origin) r k c = stays c
applied_to ch me boot zxid (body.Attach session passwd origin) r k c = attached_to ch zxid (record { node = me; boot = boot; conn = k }) origin session r k c
applied_to ch me boot zxid (body.Expire session) r k c = refused_if (is_of session c.phase) (ch.luck k).answers zxid by_end c
applied_to ch me boot zxid (body.Write session epoch seq q) r k c = written_to session epoch seq r c

-- an entry that came too late means nothing
unfoldable pub meaning : Choices → ℕ → ℕ → ℕ → Body → Reply → Row
meaning ch me boot zxid b r k c = if is_stale r then stays c else applied_to ch me boot zxid b r k c

-- ---- the connection that waits for the reply to its connect request

-- its number, where it is one of this run of the node
abbrev pub conn_of : ℕ → ℕ → Origin → Option ℕ
conn_of me boot o = if o.node == me && o.boot == boot then Some o.conn else None

abbrev pub newcomer : ℕ → ℕ → Body → Option ℕ
newcomer me boot body.Noop = None
newcomer me boot (body.OpenSession timeout passwd o) = conn_of me boot o
newcomer me boot (body.Attach session passwd o) = conn_of me boot o
newcomer me boot (body.Expire session) = None
newcomer me boot (body.Write session epoch seq c) = None

-- the session that an entry opened or gave over
abbrev pub attached : Body → Option ℕ
attached (body.Attach session passwd o) = Some session
attached b = None

abbrev pub session_of : Body → Reply → Option ℕ
session_of b (reply.Session id) = Some id
session_of b (reply.Epoch epoch) = attached b
session_of b r = None

-- what came of the connect request
abbrev pub session_at : State → Option ℕ → Option Session
session_at s None = None
session_at s (Some id) = map.get s.sessions id

abbrev pub number_in : Option ℕ → ℕ
number_in None = 0
number_in (Some id) = id

-- the newcomer, and what it hands in
pub record Greeting : Type 0 where
  pub table : Table
  pub desk : Desk

abbrev pub greeted_in : Choices → Ground → Desk → Table → Option ℕ → ℕ → Seat → Phase → Greeting
greeted_in ch g d t id k x (phase.Connecting ro) = let w = greeted_as g (ch.luck k) k t.watches d x.connection ro (number_in id) (session_at g.state id) in record { table = with_served k x w t; desk = w.desk }
greeted_in ch g d t id k x p = record { table = t; desk = d }

abbrev pub greeted_at : Choices → Ground → Desk → Table → Option ℕ → ℕ → Option Seat → Greeting
greeted_at ch g d t id k None = record { table = t; desk = d }
greeted_at ch g d t id k (Some x) = greeted_in ch g d t id k x x.connection.phase

abbrev pub greeted_by : Choices → Ground → Desk → Table → Option ℕ → Option ℕ → Greeting
greeted_by ch g d t id None = record { table = t; desk = d }
greeted_by ch g d t id (Some k) = greeted_at ch g d t id k (map.get t.seats k)

-- the connection that the entry is for, unless the entry came too late
unfoldable pub greeted : Choices → Ground → Desk → Table → ℕ → ℕ → Body → Reply → Greeting
greeted ch g d t me boot b r = greeted_by ch g d t (session_of b r) (if is_stale r then None else newcomer me boot b)

-- ---- all of it

-- the connections behind the events and the meaning of an entry
unfoldable pub informed : Choices → Node → Body → Outcome → Table
informed ch x b o = let f = fired x.watches o.events in
    with_row (meaning ch x.me x.boot o.state.applied b o.reply) (with_row (hears ch f.pairs) (tabled x.seats f.left))

abbrev pub committed_by : Choices → Node → ℕ → Body → Outcome → Greeting
committed_by ch x now b o = greeted ch (ground now o.state x) (desk x) (informed ch x b o) x.me x.boot b o.reply

abbrev pub settled_behind : Choices → State → Greeting → Greeting
settled_behind ch s g = record g { table = settled_all ch s g.table (map.keys g.table.seats) }

unfoldable pub committed : Choices → Node → ℕ → LogEntry → Greeting
committed ch x now e = settled_behind ch (apply x.state e).state (committed_by ch x now e.body (apply x.state e))

-- ---- the sessions that were heard

abbrev pub hear_in : ℕ → ℕ → Option Session → FinMap nat_cmp Heard → FinMap nat_cmp Heard
hear_in now id None m = m
hear_in now id (Some x) m = map.insert m id (heard_at now id x.timeout)

-- a session of the state is heard
abbrev pub hear : ℕ → State → FinMap nat_cmp Heard → ℕ → FinMap nat_cmp Heard
hear now s m id = hear_in now id (map.get s.sessions id) m

unfoldable pub hear_all : ℕ → State → FinMap nat_cmp Heard → List ℕ → FinMap nat_cmp Heard
hear_all now s m [] = m
hear_all now s m (id ∷ ids) = hear_all now s (hear now s m id) ids

-- one that is opened or taken over is heard, and one that ended is forgotten
abbrev pub heard_behind : ℕ → Body → Reply → State → FinMap nat_cmp Heard → FinMap nat_cmp Heard
heard_behind now b (reply.Session id) s m = hear now s m id
heard_behind now (body.Attach session passwd o) (reply.Epoch epoch) s m = hear now s m session
heard_behind now (body.Expire session) reply.Done s m = map.remove m session
heard_behind now (body.Write session epoch seq cmd.CloseSession) reply.Done s m = map.remove m session
heard_behind now b r s m = m
