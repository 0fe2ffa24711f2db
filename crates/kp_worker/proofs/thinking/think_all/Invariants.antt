use Rattle.std.proofs.Common.{◌≡◌, List, ◌++◌, length}
use Rattle.std.specs.Prelude.{Ok}
use Rattle.std.specs.Vec.Iter.{into_iter_items, into_iter_len}
use Rattle.kp_event.specs.declared.event.NodeEventKind.{NodeEventKind}
use Rattle.kp_shared.specs.Nodes.{IsNodeTurn}
use Rattle.kp_worker.specs.Turns.{AllTells}
use Rattle.kp_worker.proofs.thinking.think_all.Given as goal

abbrev pub invariant-loop-kind : goal.invariant-loop-kind
invariant-loop-kind g l = record {
  next : (goal.iterator-loop-kind g).can_next l.kind-iterator;
  finite : (goal.iterator-loop-kind g).is_finite l.kind-iterator;
  left : into_iter_len l.kind-iterator ≡ length (into_iter_items l.kind-iterator);
  seat : IsNodeTurn (λ s. g.K.Kept.life s.kept) l.turn l.seat;
  all : (done : List (NodeEventKind _)) × (done ++ into_iter_items l.kind-iterator ≡ l.fn.kinds.items) × AllTells (g.C.Clock.may l.clock) l.fn.seat l.seat l.fn.notes.items l.notes.items done (Ok tt);
}
