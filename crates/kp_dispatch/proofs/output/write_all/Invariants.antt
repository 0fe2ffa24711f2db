use Rattle.std.proofs.Common.{◌≡◌, ◌≤◌, ◌-◌, length, drop}
use Rattle.kp_dispatch.specs.Output.{Wrote}
use Rattle.kp_dispatch.proofs.output.write_all.Given as goal

abbrev pub invariant-loop-at : goal.invariant-loop-at
invariant-loop-at g l = record {
  inside : l.at ≤ length l.bytes;
  wrote : Wrote (g.W.Sink.held l.fn.output) (g.W.Sink.held l.output) (drop l.at l.bytes) l.bytes;
  quiet : g.W.Sink.faults l.output ≡ g.W.Sink.faults l.fn.output;
}

abbrev pub decreases-loop-at : goal.decreases-loop-at
decreases-loop-at g l = length l.bytes - l.at
