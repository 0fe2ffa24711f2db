-- those that were sent so far, and the others behind them
use Rattle.std.proofs.Common.{◌≡◌, ◌++◌, length, map}
use Rattle.std.specs.Vec.Iter.{into_iter_items, into_iter_len}
use Rattle.kp_node.specs.Serving.{sent_to}
use Rattle.kp_node.proofs.serving.send_all.Given as goal

abbrev pub invariant-loop-body : goal.invariant-loop-body
invariant-loop-body l = record {
  so_far : l.mails.items ++ map (sent_to l.ground) (into_iter_items l.body-iterator) ≡ map (sent_to l.ground) l.fn.forwards.items;
  left : into_iter_len l.body-iterator ≡ length (into_iter_items l.body-iterator);
}
