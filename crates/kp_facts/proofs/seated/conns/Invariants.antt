use Rattle.std.proofs.Common.{◌-◌, ◌≡◌, ◌++◌}
use Rattle.kp_seats.specs.Seating.{above}
use Rattle.kp_facts.proofs.Connected.{facts_over}
use Rattle.kp_facts.proofs.seated.conns.Given as goal

-- with those that are left it is all
abbrev pub invariant-loop-next : goal.invariant-loop-next
invariant-loop-next l = l.list.items ++ facts_over l.seats.seats (above l.seats.seats l.conn) ≡ facts_over l.seats.seats (above l.seats.seats 0)

abbrev pub decreases-loop-next : goal.decreases-loop-next
decreases-loop-next l = l.seats.next - l.conn
