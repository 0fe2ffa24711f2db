use Rattle.kp_wire.specs.Connects.{connect_answers}
use Rattle.kp_wire.proofs.PacketWrites.{sent}
use Rattle.kp_wire.proofs.connect.reply_packet.Goals as goal

pub returns : goal.returns
returns c = sent connect_answers c.args.reply.now c.in_ok-writer.writer c.write_reply.new.writer c.packet_of.result c.in_ok-writer.ensures c.in_ok-write_reply.ensures c.packet_of.ensures
