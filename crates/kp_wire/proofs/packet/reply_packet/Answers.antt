use Rattle.kp_wire.specs.declared.packet.Packet.TheVariants as packet
use Rattle.kp_wire.specs.Replies.{HasShape, shape_in}
use Rattle.kp_wire.specs.ServerPackets.{answers}
use Rattle.kp_wire.proofs.PacketWrites.{sent_where, begun, its_shape}
use Rattle.kp_wire.proofs.packet.reply_packet.Goals as goal

pub packet_of-requires : goal.packet_of-requires
packet_of-requires c = let s = shape_in c.args.reply.now in
    begun (answers s) (packet.Reply c.args.header.xid c.args.header.zxid c.args.reply.now) c.in_ok-writer.writer c.write_asked.new.writer c.in_ok-writer.ensures (c.in_ok-write_asked.ensures s (its_shape c.args.reply.now))

pub returns : goal.returns
returns c = sent_where (λ s. HasShape s c.args.reply.now) answers (packet.Reply c.args.header.xid c.args.header.zxid c.args.reply.now) c.in_ok-writer.writer c.write_asked.new.writer c.packet_of.result c.in_ok-writer.ensures c.in_ok-write_asked.ensures c.packet_of.ensures
