use Rattle.std.proofs.Common.{◌≡◌, ◌<◌, ◌≤◌, ◌+◌, length}
use Rattle.kp_model.specs.Store.{last}
use Rattle.kp_top.specs.InputLines.{lines_of}
use Rattle.kp_top.specs.Transcript.{printed, first_bad, transcript, bad_line}
use Rattle.kp_top.specs.Output.{Wrote}
use Rattle.kp_top.proofs.store.take_lines.Given as goal

abbrev pub invariant-loop-line : goal.invariant-loop-line
invariant-loop-line g l = record {
  wrote : Wrote (g.W.Sink.held l.fn.output) (g.W.Sink.held l.output) (printed l.work l.n (lines_of l.rest)) (transcript l.text);
  bad : first_bad l.n (lines_of l.rest) ≡ bad_line l.text;
  count : last l.work.store < l.n;
  room : l.n + length l.rest ≤ length l.text + 1;
  quiet : g.W.Sink.faults l.output ≡ g.W.Sink.faults l.fn.output;
}

abbrev pub decreases-loop-line : goal.decreases-loop-line
decreases-loop-line g l = length l.rest
