use Rattle.kp_node.proofs.EarlySeats.{early_at}
use Rattle.kp_node.proofs.early.take_early_at.Goals as goal

pub returns-clause-ok : goal.returns-clause-ok
returns-clause-ok c = early_at c.args.ground c.args.number c.args.bytes.now _ _ _ _ c.args.seats.now c.take_early_among.new.seats c.leave_over.new.seats c.in_ok-first.first c.in_ok-first.ensures.ok c.leave_over.ensures
