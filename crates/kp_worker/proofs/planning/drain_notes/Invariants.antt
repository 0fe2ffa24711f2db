use Rattle.std.proofs.Common.{length, ◌-◌}
use Rattle.kp_worker.specs.Turns.{AddsHarmless}
use Rattle.kp_worker.proofs.planning.drain_notes.Given as goal

abbrev pub invariant-loop-at : goal.invariant-loop-at
invariant-loop-at g l = record {
  adds : AddsHarmless (g.L.Lines.sees l.lines) l.fn.kinds.items l.kinds.items;
}

abbrev pub decreases-loop-at : goal.decreases-loop-at
decreases-loop-at g l = length l.notes - l.at
