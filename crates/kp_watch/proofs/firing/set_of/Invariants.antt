use Rattle.std.proofs.Common.{◌≡◌, ℕ, take, nat_eq}
use Rattle.std.specs.List.{list_any}
use Rattle.std.specs.HashSet.{contains}
use Rattle.kp_watch.proofs.firing.set_of.Given as goal

abbrev pub invariant-loop-conn : goal.invariant-loop-conn
invariant-loop-conn l = (n : ℕ) → contains nat_eq l.set n ≡ list_any (nat_eq n) (take l.conn-index l.conns)
