use Rattle.std.proofs.Common.{◌≡◌, ◌-◌, List, []}
use Rattle.kp_snapshot.specs.Rules.{Numbered}
use Rattle.kp_snapshot.specs.Rows.{rows_at}
use Rattle.kp_snapshot.specs.Knowing.{knowing}
use Rattle.kp_snapshot.proofs.SessionRows.{session_at}
use Rattle.kp_snapshot.proofs.sessions.check_each.Given as goal

-- what is known is of the sessions so far, and the others are still to come
abbrev pub invariant-loop : goal.invariant-loop
invariant-loop l = (before : List Numbered) × (l.known ≡ knowing l.fn.known.next before) × (rows_at (session_at l.fn.known.next) (l.count - l.counter) before l.reader ≡ rows_at (session_at l.fn.known.next) l.count [] l.fn.reader)
