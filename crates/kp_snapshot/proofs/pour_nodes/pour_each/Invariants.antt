use Rattle.std.proofs.Common.{◌≡◌, ◌-◌, ◌≤◌, List, [], length}
use Rattle.kp_snapshot.specs.Filled.{with_nodes}
use Rattle.kp_snapshot.specs.Rules.{Placed}
use Rattle.kp_snapshot.specs.Rows.{rows_at}
use Rattle.kp_snapshot.specs.Knowing.{Stand}
use Rattle.kp_snapshot.proofs.Placing.{node_at}
use Rattle.kp_snapshot.proofs.pour_nodes.pour_each.Given as goal

-- the nodes so far were handed over, and the others are still to come
abbrev pub invariant-loop : goal.invariant-loop
invariant-loop g l = g.F.Fill.takes l.into × ((before : List Placed) × Stand before l.trail.last.now l.trail.ups.items × (length before ≡ l.counter) × (l.counter ≤ l.count) × (g.F.Fill.state l.into ≡ with_nodes (g.F.Fill.state l.fn.into) before) × (rows_at (node_at l.index l.ids) (l.count - l.counter) before l.reader ≡ rows_at (node_at l.index l.ids) l.count [] l.fn.reader))
