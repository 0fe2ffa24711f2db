use Rattle.kp_wire.specs.Connects.{connects}
use Rattle.kp_wire.proofs.PacketWrites.{sent}
use Rattle.kp_wire.proofs.connect.request_packet.Goals as goal

pub returns : goal.returns
returns c = sent connects c.args.request.now c.in_ok-writer.writer c.write_request.new.writer c.packet_of.result c.in_ok-writer.ensures c.in_ok-write_request.ensures c.packet_of.ensures
