use Rattle.std.proofs.Common.{sym, ◌∙◌}
use Rattle.kp_wire.proofs.PacketWrites.{wrote_asked}
use Rattle.kp_wire.proofs.packet.write_asked.Goals as goal

pub returns : goal.returns
returns c = λ s shape. wrote_asked s c.args.header.xid c.args.header.zxid c.args.reply.now c.args.writer.now c.write_header.new.writer c.write_answer.new.writer (sym c.fires.ensures ∙ c.if-fires.false) c.in_ok-write_header.ensures shape c.in_ok-write_answer.ensures
