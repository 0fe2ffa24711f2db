use Rattle.std.proofs.Common.{sym, subst, ap, is_some}
use Rattle.kp_seats.specs.Walked.{IsStep}
use Rattle.kp_seats.proofs.Passing.{stepped}
use Rattle.kp_node.specs.Firing.{SeatHears}
use Rattle.kp_node.proofs.firing.tell_one.Goals as goal

pub returns-in-Some : goal.returns-in-Some
returns-in-Some c = subst (IsStep (SeatHears c.args.event.now) c.args.conn c.args.seats.now) (sym (c.get_mut.follows.holds c.tell_seat.new.seat (ap is_some (sym c.in-Some.ensures.value))))
    (stepped (SeatHears c.args.event.now) c.args.conn c.args.seats.now c.in-Some.seat.now c.tell_seat.new.seat c.in-Some.ensures.value c.tell_seat.ensures)
