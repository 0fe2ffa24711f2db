use Rattle.std.proofs.Common.{◌-◌}
use Rattle.kp_node.proofs.Walked.{Follows}
use Rattle.kp_node.proofs.walking.follow.Given as goal

-- those that are left make of what is left what all make
abbrev pub invariant-loop-next : goal.invariant-loop-next
invariant-loop-next l = Follows l.fn.seats l.fn.watches l.seats l.watches l.conn

abbrev pub decreases-loop-next : goal.decreases-loop-next
decreases-loop-next l = l.seats.next - l.conn
