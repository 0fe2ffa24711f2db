-- those that joined so far did by some luck, and the others are left
use Rattle.std.proofs.Common.{◌≡◌, length}
use Rattle.std.specs.Vec.Iter.{into_iter_items, into_iter_len}
use Rattle.kp_node.specs.Joining.{JoinSoFar}
use Rattle.kp_node.proofs.joining.join_all.Given as goal

abbrev pub invariant-loop-request : goal.invariant-loop-request
invariant-loop-request l = record {
  so_far : JoinSoFar l.ground l.fn.requests l.fn.storage l.fn.bodies.items l.fn.forwards.items l.fn.conn l.storage l.bodies.items l.forwards.items l.conn (into_iter_items l.request-iterator);
  left : into_iter_len l.request-iterator ≡ length (into_iter_items l.request-iterator);
}
