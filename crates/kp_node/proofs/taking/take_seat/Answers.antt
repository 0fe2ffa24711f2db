use Rattle.kp_node.proofs.Took.{seat_takes}
use Rattle.kp_node.proofs.taking.take_seat.Goals as goal

pub returns-clause-ok : goal.returns-clause-ok
returns-clause-ok c = seat_takes c.args.ground c.args.number c.args.bytes.now _ _ _ _ _ _ c.args.seat.now c.take_live.new.conn c.take_live.result c.take_live.ensures.ok c.take_live.ensures.end
