use Rattle.std.proofs.Common.{sym, subst, ap, is_some}
use Rattle.kp_seats.specs.Walked.{IsStep}
use Rattle.kp_seats.proofs.Passing.{stepped}
use Rattle.kp_node.specs.Meaning.{SeatKeeps}
use Rattle.kp_node.proofs.meaning.reply_at.Goals as goal

pub returns-in-Some : goal.returns-in-Some
returns-in-Some c = subst (IsStep (SeatKeeps c.args.session c.args.epoch c.args.seq c.args.answer) c.args.conn c.args.seats.now) (sym (c.get_mut.follows.holds c.reply_seat.new.seat (ap is_some (sym c.in-Some.ensures.value))))
    (stepped (SeatKeeps c.args.session c.args.epoch c.args.seq c.args.answer) c.args.conn c.args.seats.now c.in-Some.seat.now c.reply_seat.new.seat c.in-Some.ensures.value c.reply_seat.ensures)
