-- The answer of a write, found at the connection of its session.
use Rattle.std.specs.Prelude.{◌≡◌, ℕ, Option, Some, None}
use Rattle.std.specs.FinMap as map
use Rattle.kp_model.specs.declared.reply.Reply.{Reply}
use Rattle.kp_wire.specs.declared.reply.WireReply.{WireReply}
use Rattle.kp_conn.specs.Queue.{awaited}
use Rattle.kp_step.specs.declared.seat.Seat.{Seat}
use Rattle.kp_step.specs.Node.{Seats}
use Rattle.kp_node.specs.Telling.{answer_for}

-- it is that of the write with the number at this connection
abbrev pub IsAnswerAt : Seats → Option ℕ → ℕ → Reply → Option WireReply → Type 0
IsAnswerAt seats None seq r a = Unit {0}
IsAnswerAt seats (Some conn) seq r a = (s : Seat) → map.get seats conn ≡ Some s → a ≡ answer_for r (awaited seq s.connection.queue)
