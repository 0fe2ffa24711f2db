use Rattle.kp_node.proofs.Took.{takes_at}
use Rattle.kp_node.proofs.taking.take_at.Goals as goal

pub returns-clause-ok : goal.returns-clause-ok
returns-clause-ok c = takes_at c.args.ground c.args.number c.args.bytes.now _ _ _ _ _ _ c.args.seats.now c.take_among.new.seats c.leave_over.new.seats c.in_ok-taken.taken c.in_ok-taken.ensures.ok c.requires c.leave_over.ensures
