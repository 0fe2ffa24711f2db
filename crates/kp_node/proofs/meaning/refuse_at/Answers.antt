use Rattle.std.proofs.Common.{sym, subst, ap, is_some, true}
use Rattle.kp_seats.specs.Walked.{IsStep}
use Rattle.kp_seats.proofs.Passing.{stepped}
use Rattle.kp_node.specs.Meaning.{SeatRefuses}
use Rattle.kp_node.proofs.meaning.refuse_at.Goals as goal

pub returns-in-Some : goal.returns-in-Some
returns-in-Some c = subst (IsStep (SeatRefuses c.args.session true c.args.zxid c.args.refusal.now) c.args.conn c.args.seats.now) (sym (c.get_mut.follows.holds c.refuse_seat.new.seat (ap is_some (sym c.in-Some.ensures.value))))
    (stepped (SeatRefuses c.args.session true c.args.zxid c.args.refusal.now) c.args.conn c.args.seats.now c.in-Some.seat.now c.refuse_seat.new.seat c.in-Some.ensures.value c.refuse_seat.ensures)
