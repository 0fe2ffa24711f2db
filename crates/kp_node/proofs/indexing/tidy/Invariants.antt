use Rattle.std.specs.Prelude.{drop}
use Rattle.kp_node.specs.Indexing.{TidySoFar}
use Rattle.kp_node.proofs.indexing.tidy.Given as goal

abbrev pub invariant-loop-conn : goal.invariant-loop-conn
invariant-loop-conn l = TidySoFar (drop l.conn-index l.conns) l.fn.seats l.seats
