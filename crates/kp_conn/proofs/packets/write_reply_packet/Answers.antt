use Rattle.std.proofs.Common.{ℤ, IfOk, subst}
use Rattle.std.specs.Int.{w32, w64, cast_signed}
use Rattle.std.proofs.lemmas.Int.{to_z-of_z}
use Rattle.kp_wire.specs.Common.{Sends}
use Rattle.kp_wire.specs.Replies.{HasShape}
use Rattle.kp_wire.specs.ServerPackets.{answers}
use Rattle.kp_wire.specs.declared.packet.Packet.TheVariants as packet
use Rattle.kp_wire.specs.declared.reply.Shape.{Shape}
use Rattle.kp_conn.proofs.Sent.{reply_sent}
use Rattle.kp_conn.proofs.packets.write_reply_packet.Goals as goal

pub returns : goal.returns
returns c = reply_sent c.args.xid c.args.zxid c.args.reply.now c.write_reply.result
    (subst (λ (z : ℤ). IfOk c.write_reply.result (λ b. (s : Shape) → HasShape s c.args.reply.now → Sends (answers s) (packet.Reply z (cast_signed w64 c.args.zxid) c.args.reply.now) b)) (to_z-of_z w32 c.args.xid c.ranges.xid) c.write_reply.ensures)
