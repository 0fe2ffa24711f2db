use Rattle.std.proofs.Common.{length}
use Rattle.kp_journal.specs.Frames.{with_run, run_at}
use Rattle.kp_journal.proofs.Reading.{RunsOn}
use Rattle.kp_journal.proofs.found.Found.read_run.Given as goal

abbrev pub invariant-loop-alloc : goal.invariant-loop-alloc
invariant-loop-alloc l = RunsOn l.self l.reader (with_run l.fn.self (run_at l.fn.reader.at l.fn.reader.rest))

abbrev pub decreases-loop-alloc : goal.decreases-loop-alloc
decreases-loop-alloc l = length l.reader.rest
