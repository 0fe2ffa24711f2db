use Rattle.std.proofs.Common.{◌≡◌, ◌++◌, map, drop}
use Rattle.kp_watch.specs.Watching.{heard_at}
use Rattle.kp_watch.proofs.firing.push_all.Given as goal

abbrev pub invariant-loop-conn : goal.invariant-loop-conn
invariant-loop-conn l = l.fired.items ++ map (heard_at l.at) (drop l.conn-index l.conns) ≡ l.fn.fired.items ++ map (heard_at l.at) l.conns
