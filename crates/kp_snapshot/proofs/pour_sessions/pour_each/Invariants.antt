use Rattle.std.proofs.Common.{◌≡◌, ◌-◌, List, []}
use Rattle.kp_snapshot.specs.Filled.{with_sessions}
use Rattle.kp_snapshot.specs.Rules.{Numbered}
use Rattle.kp_snapshot.specs.Rows.{rows_at}
use Rattle.kp_snapshot.specs.Knowing.{knowing}
use Rattle.kp_snapshot.proofs.SessionRows.{session_at}
use Rattle.kp_snapshot.proofs.pour_sessions.pour_each.Given as goal

-- the sessions so far were handed over, and the others are still to come
abbrev pub invariant-loop : goal.invariant-loop
invariant-loop g l = g.F.Fill.takes l.into × ((before : List Numbered) × (l.known ≡ knowing l.fn.known.next before) × (g.F.Fill.state l.into ≡ with_sessions (g.F.Fill.state l.fn.into) before) × (rows_at (session_at l.fn.known.next) (l.count - l.counter) before l.reader ≡ rows_at (session_at l.fn.known.next) l.count [] l.fn.reader))
