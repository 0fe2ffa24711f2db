use Rattle.std.proofs.Common.{length, ◌-◌, ◌≤◌, ℕ, List}
use Rattle.std.specs.Prelude.{Option}
use Rattle.kp_worker.specs.Outside.{Outside}
use Rattle.kp_worker.specs.Calls.{Adds}
use Rattle.kp_worker.proofs.gathering.accept_all.Given as goal

abbrev pub invariant-loop-at : goal.invariant-loop-at
invariant-loop-at g l = record {
  adds : (o : Outside) (box : ℕ → Option (List _)) → Adds o o box box l.at l.fn.kinds.items l.kinds.items;
  within : l.at ≤ length l.draws;
}

abbrev pub decreases-loop-at : goal.decreases-loop-at
decreases-loop-at g l = length l.draws - l.at
