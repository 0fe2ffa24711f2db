use Rattle.std.proofs.Common.{◌≡◌, take, nat_eq, not}
use Rattle.std.specs.List.{filter}
use Rattle.std.specs.HashSet.{contains}
use Rattle.kp_watch.proofs.firing.outside.Given as goal

abbrev pub invariant-loop-conn : goal.invariant-loop-conn
invariant-loop-conn l = l.found.items ≡ filter (λ c. not (contains nat_eq l.set c)) (take l.conn-index l.second)
