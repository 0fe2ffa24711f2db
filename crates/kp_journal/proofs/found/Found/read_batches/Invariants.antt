use Rattle.std.proofs.Common.{◌-◌, length, drop}
use Rattle.kp_journal.specs.Frames.{frames}
use Rattle.kp_journal.specs.Answers.{with_framed}
use Rattle.kp_journal.proofs.Batches.{FramesOn}
use Rattle.kp_journal.proofs.found.Found.read_batches.Given as goal

abbrev pub invariant-loop-self : goal.invariant-loop-self
invariant-loop-self l = FramesOn l.self l.gate l.bytes (with_framed l.fn.self (frames (length l.fn.bytes) l.fn.at (drop l.fn.at l.fn.bytes)))

abbrev pub decreases-loop-self : goal.decreases-loop-self
decreases-loop-self l = length l.bytes - l.gate
