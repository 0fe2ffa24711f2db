-- The answer of an applied entry, and the write that keeps it.
use Rattle.std.specs.Prelude.{◌≡◌, ℕ, Bool, Option, Some, None}
use Rattle.kp_model.specs.declared.session.Session.{Session}
use Rattle.kp_model.specs.declared.reply.Reply.{Reply}
use Rattle.kp_wire.specs.declared.reply.WireReply.{WireReply}
use Rattle.kp_ask.specs.Answers.{answer_to}
use Rattle.kp_conn.specs.declared.waiting.Waiting.{Waiting}
use Rattle.kp_conn.specs.Connection.{Connection}
use Rattle.kp_conn.specs.Connection as conn
use Rattle.kp_conn.specs.Queue.{awaited}
use Rattle.kp_step.specs.Committing.{replied_to}
use Rattle.kp_step.specs.Handing.{refusal, greeting}

-- what a write that waits is answered, where this is the reply of its entry
abbrev pub answer_for : Reply → Option Waiting → Option WireReply
answer_for r None = None
answer_for r (Some w) = Some (answer_to w.request.ask r)

-- the write with the number keeps this answer
abbrev pub replied_by : ℕ → Option WireReply → Connection → Connection
replied_by seq None c = c
replied_by seq (Some r) c = conn.settled seq r c

-- the answer that was found is what the definition of the step gives the write
abbrev pub FoundIsKept : Type 0
FoundIsKept = (seq : ℕ) (r : Reply) (c : Connection) → replied_by seq (answer_for r (awaited seq c.queue)) c ≡ replied_to seq r c

-- the connection that is connecting is answered: it serves the session, or is refused
abbrev pub greeted_with : Bool → ℕ → Option Session → Connection → Connection
greeted_with ro id None c = conn.opened (refusal ro) 0 c
greeted_with ro id (Some x) c = conn.opened (greeting ro id x) x.epoch c
