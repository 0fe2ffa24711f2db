use Rattle.std.proofs.Common.{◌≡◌, ◌++◌, length}
use Rattle.std.specs.Vec.Iter.{into_iter_items, into_iter_len}
use Rattle.kp_draft.proofs.operations.append.Given as goal

abbrev pub invariant-loop-event : goal.invariant-loop-event
invariant-loop-event l = record {
  events : l.events ++ into_iter_items l.event-iterator ≡ l.fn.events ++ l.fn.more;
  left : into_iter_len l.event-iterator ≡ length (into_iter_items l.event-iterator);
}
