use Rattle.std.proofs.Common.{◌≡◌, ◌++◌, map}
use Rattle.kp_facts.specs.Facts.{watchers_facts}
use Rattle.kp_facts.proofs.Watches.{watcher_of}
use Rattle.kp_facts.proofs.watching.watchers.Given as goal

-- with those that are left it is all
abbrev pub invariant-loop-conn : goal.invariant-loop-conn
invariant-loop-conn l = l.list.items ++ map (watcher_of (λ v. v.items) l.seats.seats) l.conn-iterator.rest.items ≡ watchers_facts l.seats.seats l.watches
