use Rattle.std.proofs.Common.{◌-◌, ◌≡◌, ◌++◌, not}
use Rattle.std.specs.List.{filter}
use Rattle.std.specs.FinMap as map
use Rattle.kp_seats.specs.Seating.{above}
use Rattle.kp_step.specs.Step.{is_ready}
use Rattle.kp_node.proofs.walking.unready.Given as goal

-- with those that are left it is all
abbrev pub invariant-loop-next : goal.invariant-loop-next
invariant-loop-next l = l.list.items ++ filter (λ k. not (is_ready (map.get l.seats.seats k))) (above l.seats.seats l.conn) ≡ filter (λ k. not (is_ready (map.get l.seats.seats k))) (above l.seats.seats 0)

abbrev pub decreases-loop-next : goal.decreases-loop-next
decreases-loop-next l = l.seats.next - l.conn
