use Rattle.std.proofs.Common.{◌-◌}
use Rattle.kp_seats.specs.Walked.{IsPart}
use Rattle.kp_seats.proofs.walk.change_all.Given as goal

abbrev pub invariant-loop-next : goal.invariant-loop-next
invariant-loop-next g l = IsPart (g.C.Change.changes l.change) l.conn l.fn.seats l.seats

abbrev pub decreases-loop-next : goal.decreases-loop-next
decreases-loop-next g l = l.seats.next - l.conn
