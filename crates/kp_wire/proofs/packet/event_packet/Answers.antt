use Rattle.kp_wire.specs.declared.packet.Packet.TheVariants as packet
use Rattle.kp_wire.specs.declared.reply.Shape.TheVariants as shapes
use Rattle.kp_wire.specs.ServerPackets.{answers}
use Rattle.kp_wire.proofs.PacketWrites.{sent_any, begun}
use Rattle.kp_wire.proofs.packet.event_packet.Goals as goal

pub packet_of-requires : goal.packet_of-requires
packet_of-requires c = begun (answers shapes.Empty) (packet.Event c.args.event.now) c.in_ok-writer.writer c.write_fired.new.writer c.in_ok-writer.ensures (c.in_ok-write_fired.ensures shapes.Empty)

pub returns : goal.returns
returns c = sent_any answers (packet.Event c.args.event.now) c.in_ok-writer.writer c.write_fired.new.writer c.packet_of.result c.in_ok-writer.ensures c.in_ok-write_fired.ensures c.packet_of.ensures
