use Rattle.std.proofs.Common.{◌≡◌, ◌++◌, map}
use Rattle.kp_facts.specs.Facts.{watched_facts}
use Rattle.kp_facts.proofs.Watches.{watched_of}
use Rattle.kp_facts.proofs.watching.watched.Given as goal

-- with those that are left it is all
abbrev pub invariant-loop-path : goal.invariant-loop-path
invariant-loop-path l = l.list.items ++ map (watched_of (λ v. v.items) l.seats.seats) l.path-iterator.rest.items ≡ watched_facts l.seats.seats l.watches
