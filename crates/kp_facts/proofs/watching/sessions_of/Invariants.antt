use Rattle.std.proofs.Common.{◌≡◌, map, take}
use Rattle.kp_facts.specs.Facts.{session_at}
use Rattle.kp_facts.proofs.watching.sessions_of.Given as goal

abbrev pub invariant-loop-conn : goal.invariant-loop-conn
invariant-loop-conn l = l.list.items ≡ map (session_at l.seats.seats) (take l.conn-index l.conns)
