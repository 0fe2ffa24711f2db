-- The packets that a server sends, with their lengths in front.
use Rattle.std.specs.Prelude.{ℕ, ℤ, List}
use Rattle.std.specs.Int.{w64, cast_signed}
use Rattle.kp_model.specs.declared.reply.Event.{Event}
use Rattle.kp_wire.specs.declared.connect.ConnectReply.{ConnectReply}
use Rattle.kp_wire.specs.declared.packet.Packet.TheVariants as packet
use Rattle.kp_wire.specs.declared.reply.Shape.TheVariants as shapes
use Rattle.kp_wire.specs.declared.reply.WireReply.{WireReply}
use Rattle.kp_wire.specs.Connects.{connect_answer_packets}
use Rattle.kp_wire.specs.Replies.{shape_in}
use Rattle.kp_wire.specs.ServerPackets.{server_packets}

-- the answer to the request with that xid, with the index of the last entry that it shows
unfoldable pub reply_packet : ℤ → ℕ → WireReply → List ℕ
reply_packet xid zxid r = (server_packets (shape_in r)).spell (packet.Reply xid (cast_signed w64 zxid) r)

-- what happened at a path
unfoldable pub event_packet : Event → List ℕ
event_packet e = (server_packets shapes.Empty).spell (packet.Event e)

-- the first packet of a server
unfoldable pub connect_packet : ConnectReply → List ℕ
connect_packet r = connect_answer_packets.spell r
