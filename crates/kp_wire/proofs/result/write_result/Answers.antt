use Rattle.kp_wire.proofs.ResultWrites.{wrote_result}
use Rattle.kp_wire.proofs.result.write_result.Goals as goal

pub returns : goal.returns
returns c = wrote_result c.args.kind c.args.answer.now c.args.writer.now c.write_type.new.writer c.boolean.new.self c.int.new.self c.write_body.new.writer c.in_ok-write_type.ensures c.in_ok-boolean.ensures.ok c.in_ok-int.ensures.ok c.in_ok-write_body.ensures
