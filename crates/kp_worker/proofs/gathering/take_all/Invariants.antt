use Rattle.std.proofs.Common.{length, ◌-◌, ℕ, List}
use Rattle.std.specs.Prelude.{Option}
use Rattle.kp_worker.specs.Calls.{Adds}
use Rattle.kp_worker.proofs.gathering.take_all.Given as goal

abbrev pub invariant-loop-at : goal.invariant-loop-at
invariant-loop-at g l = record {
  adds : (box : ℕ → Option (List _)) → Adds (g.L.Lines.sees l.fn.lines) (g.L.Lines.sees l.lines) box box 0 l.fn.kinds.items l.kinds.items;
}

abbrev pub decreases-loop-at : goal.decreases-loop-at
decreases-loop-at g l = length l.ready - l.at
