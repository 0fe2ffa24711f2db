use Rattle.std.proofs.Common.{◌≡◌, ◌++◌, drop}
use Rattle.std.specs.List.{flat_map}
use Rattle.kp_watch.specs.Numbered.{watch_at, conn_at}
use Rattle.kp_watch.proofs.index.conns_of.Given as goal

-- the connections so far, and those of the numbers that are left
abbrev pub invariant-loop-number : goal.invariant-loop-number
invariant-loop-number l = l.conns.items ++ flat_map (conn_at (watch_at l.book.entries)) (drop l.number-index l.numbers) ≡ flat_map (conn_at (watch_at l.book.entries)) l.numbers
