use Rattle.std.proofs.Common.{◌≡◌, length}
use Rattle.std.specs.Vec.Iter.{into_iter_items, into_iter_len}
use Rattle.kp_model.specs.Store.{Store}
use Rattle.kp_step.specs.Handing.{Desk, proposed_all}
use Rattle.kp_node.specs.Proposing.{AtDesk, ComesTo}
use Rattle.kp_node.proofs.proposing.hand_in_all.Given as goal

abbrev pub invariant-loop-body : goal.invariant-loop-body
invariant-loop-body l = record {
  left : into_iter_len l.body-iterator ≡ length (into_iter_items l.body-iterator);
  comes : (first : Store) (d : Desk) → AtDesk first l.term l.now l.fn.storage l.fn.taken.items d → ComesTo first l.term l.now l.storage l.taken.items (into_iter_items l.body-iterator) (proposed_all l.term l.now d l.fn.bodies.items);
}
