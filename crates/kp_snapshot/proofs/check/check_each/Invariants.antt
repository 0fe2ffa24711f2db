use Rattle.std.proofs.Common.{◌≡◌, ◌-◌, ◌≤◌, List, [], length}
use Rattle.kp_snapshot.specs.Rules.{Placed}
use Rattle.kp_snapshot.specs.Rows.{rows_at}
use Rattle.kp_snapshot.specs.Knowing.{Stand}
use Rattle.kp_snapshot.proofs.Placing.{node_at}
use Rattle.kp_snapshot.proofs.check.check_each.Given as goal

-- the trail is that of the nodes so far, and the others are still to come
abbrev pub invariant-loop : goal.invariant-loop
invariant-loop l = (before : List Placed) × Stand before l.trail.last.now l.trail.ups.items × (length before ≡ l.counter) × (l.counter ≤ l.count) × (rows_at (node_at l.index l.ids) (l.count - l.counter) before l.reader ≡ rows_at (node_at l.index l.ids) l.count [] l.fn.reader)
