-- A connection's queue is answered from the front, until the front is a write whose entry isn't applied.
use Rattle.std.specs.Prelude.{ℕ, ◌&&◌, not, if◌then◌else◌, Bool, true, false, List, [], ◌∷◌, ◌++◌, map, Option, Some, None, is_some}
use Rattle.kp_model.specs.State.{State}
use Rattle.kp_wire.specs.declared.request.Request.{Request}
use Rattle.kp_wire.specs.declared.reply.WireReply.{WireReply}
use Rattle.kp_wire.specs.declared.reply.WireReply.TheVariants as sent
use Rattle.kp_watch.specs.declared.watch.Watch.{Watch}
use Rattle.kp_conn.specs.declared.phase.Phase.{Phase}
use Rattle.kp_conn.specs.declared.phase.Phase.TheVariants as phase
use Rattle.kp_conn.specs.declared.waiting.Waiting.{Waiting}
use Rattle.kp_conn.specs.Connection.{Connection, closed, put}
use Rattle.kp_conn.specs.Packets.{reply_packet, event_packet}
use Rattle.kp_conn.specs.Queue.{is_close}
use Rattle.kp_step.specs.Choices.{is_out, less}
use Rattle.kp_step.specs.Answers.{Answer, Cause, code_of, answer_of}

-- what was answered to a request of a connection: of which session and epoch, on the state of which index, and why
pub record Told : Type 0 where
  pub session : ℕ
  pub epoch : ℕ
  pub zxid : ℕ
  pub request : Request
  pub reply : WireReply
  pub cause : Cause

-- the session that a connection serves and its epoch, 0 where it isn't live
abbrev pub session_in : Phase → ℕ
session_in (phase.Live s e n) = s
session_in p = 0

abbrev pub epoch_in : Phase → ℕ
epoch_in (phase.Live s e n) = e
epoch_in p = 0

abbrev pub told_by : Phase → ℕ → Request → WireReply → Cause → Told
told_by p zxid q r cause = record { session = session_in p; epoch = epoch_in p; zxid = zxid; request = q; reply = r; cause = cause }

-- a connection behind its answers, and the watches behind them
pub record Settled : Type 0 where
  pub connection : Connection
  pub watches : List Watch
  pub told : List Told

abbrev pub settled_so : Connection → List Watch → Settled
settled_so c ws = record { connection = c; watches = ws; told = [] }

abbrev pub telling : Told → Settled → Settled
telling t s = record s { told = t ∷ s.told }

-- the packets of an answer, behind those that go out already: its events, and then the reply
abbrev pub answer_packets : ℕ → Request → Answer → List (List ℕ)
answer_packets zxid q a = map event_packet a.events ++ reply_packet q.xid zxid a.reply ∷ []

abbrev pub put_answer : ℕ → Request → Answer → Connection → Connection
put_answer zxid q a c = record c { outbox = c.outbox ++ answer_packets zxid q a }

-- the end of a session is the last that is answered
abbrev pub is_end : Waiting → Bool
is_end w = is_close w.request.ask && is_some w.reply

abbrev pub with_queue : List Waiting → Connection → Connection
with_queue q c = record c { queue = q }

-- the front waits and all behind it; or there is no memory for its answer; or it is answered and what is behind it goes on
abbrev pub settled_by : Option Answer → Bool → Settled → Settled → (Answer → Settled) → Settled
settled_by None out stays lost goes = stays
settled_by (Some a) true stays lost goes = lost
settled_by (Some a) false stays lost goes = goes a

abbrev pub goes_on : State → Connection → Waiting → (Answer → Settled) → Answer → Settled
goes_on s c w more a = telling (told_by c.phase s.applied w.request a.reply a.cause)
    (if is_end w then settled_so (closed false (put_answer s.applied w.request a c)) a.watches else more a)

-- connection k with this queue, of whose answers so many find memory, is answered on a state
unfoldable pub settled : State → ℕ → Option ℕ → List Watch → Connection → List Waiting → Settled
settled s k n ws c [] = settled_so (with_queue [] c) ws
settled s k n ws c (w ∷ q) =
    settled_by (answer_of s (session_in c.phase) k ws w) (is_out n)
    (settled_so (with_queue (w ∷ q) c) ws)
    (settled_so (closed true c) ws)
    (goes_on s c w (λ a. settled s k (less n) a.watches (put_answer s.applied w.request a c) q))

-- nothing waits, or the front is a write whose entry isn't applied
abbrev pub is_at_rest : List Waiting → Bool
is_at_rest [] = true
is_at_rest (w ∷ q) = is_some w.mark && not (is_some w.reply)

-- ---- refusals: each request that waits is answered with the code, and the connection ends

unfoldable pub refused : Option ℕ → ℕ → Cause → Connection → List Waiting → Settled
refused n zxid cause c [] = settled_so (closed false c) []
refused n zxid cause c (w ∷ q) =
    if is_out n then settled_so (closed true c) []
    else telling (told_by c.phase zxid w.request (sent.Err (code_of cause)) cause) (refused (less n) zxid cause (put (reply_packet w.request.xid zxid (sent.Err (code_of cause))) c) q)

-- a connection that stays
abbrev pub stays : Connection → Settled
stays c = settled_so c []

abbrev pub refused_if : Bool → Option ℕ → ℕ → Cause → Connection → Settled
refused_if b n zxid cause c = if b then refused n zxid cause c c.queue else stays c

-- events go out one after another; where one finds no memory, the connection is given up
unfoldable pub given_out : Option ℕ → List (List ℕ) → Connection → Connection
given_out n [] c = c
given_out n (p ∷ ps) c = if is_out n then closed true c else given_out (less n) ps (put p c)
