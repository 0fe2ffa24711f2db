use Rattle.std.proofs.Common.{◌≡◌, List, ◌++◌, length}
use Rattle.std.specs.Vec.Iter.{into_iter_items, into_iter_len}
use Rattle.kp_shared.specs.declared.plan.Step.{Step}
use Rattle.kp_shared.specs.Nodes.{IsNodeTurn}
use Rattle.kp_shared.proofs.TurnCalls.{StepsSoFar}
use Rattle.kp_shared.proofs.turns.think_plan.Given as goal

abbrev pub invariant-loop-step : goal.invariant-loop-step
invariant-loop-step g l = record {
  next : (goal.iterator-loop-step g).can_next l.step-iterator;
  finite : (goal.iterator-loop-step g).is_finite l.step-iterator;
  left : into_iter_len l.step-iterator ≡ length (into_iter_items l.step-iterator);
  seat : IsNodeTurn (λ s. g.K.Kept.life s.kept) l.turn l.seat;
  steps : (done : List (Step _)) × (done ++ into_iter_items l.step-iterator ≡ l.fn.plan.items) × StepsSoFar (g.C.Clock.may l.clock) l.fn.batch.items l.batch.items l.fn.seat l.seat done;
}
