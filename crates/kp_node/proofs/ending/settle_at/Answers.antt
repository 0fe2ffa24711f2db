use Rattle.std.proofs.Common.{sym, subst, ap, is_some}
use Rattle.kp_seats.specs.Walked.{IsStep}
use Rattle.kp_seats.proofs.Passing.{stepped}
use Rattle.kp_node.specs.Ending.{SeatSettles}
use Rattle.kp_node.proofs.ending.settle_at.Goals as goal

pub returns-in-Some-clause-settled : goal.returns-in-Some-clause-settled
returns-in-Some-clause-settled g c = subst (IsStep (SeatSettles (g.V.View.state c.args.view.now) c.args.watches.now c.settle_seat.new.watches) c.args.number c.args.seats.now) (sym (c.get_mut.follows.holds c.settle_seat.new.seat (ap is_some (sym c.in-Some.ensures.value))))
    (stepped (SeatSettles (g.V.View.state c.args.view.now) c.args.watches.now c.settle_seat.new.watches) c.args.number c.args.seats.now c.in-Some.seat.now c.settle_seat.new.seat c.in-Some.ensures.value c.settle_seat.ensures)
