use Rattle.std.proofs.Common.{◌-◌, ◌≡◌, ◌+◌, ◌≤◌}
use Rattle.kp_seats.specs.Seating.{above}
use Rattle.kp_node.proofs.Walked.{lost_among}
use Rattle.kp_node.proofs.walking.count_lost.Given as goal

-- with those that are left it is all
abbrev pub invariant-loop-next : goal.invariant-loop-next
invariant-loop-next l = (l.lost + lost_among l.seats.seats (above l.seats.seats l.conn) ≡ lost_among l.seats.seats (above l.seats.seats 0)) × (l.lost ≤ l.conn)

abbrev pub decreases-loop-next : goal.decreases-loop-next
decreases-loop-next l = l.seats.next - l.conn
