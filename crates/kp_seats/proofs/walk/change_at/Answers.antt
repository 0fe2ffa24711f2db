use Rattle.std.proofs.Common.{sym, subst, ap, is_some}
use Rattle.kp_seats.specs.Walked.{IsStep}
use Rattle.kp_seats.proofs.Passing.{stepped}
use Rattle.kp_seats.proofs.walk.change_at.Goals as goal

pub returns-in-Some : goal.returns-in-Some
returns-in-Some g c = subst (IsStep (g.C.Change.changes c.args.change.now) c.args.conn c.args.seats.now) (sym (c.get_mut.follows.holds c.change.new.seat (ap is_some (sym c.in-Some.ensures.value))))
    (stepped (g.C.Change.changes c.args.change.now) c.args.conn c.args.seats.now c.in-Some.seat.now c.change.new.seat c.in-Some.ensures.value c.change.ensures)
