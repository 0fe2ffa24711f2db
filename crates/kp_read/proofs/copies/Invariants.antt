use Rattle.std.proofs.Common.{◌≡◌, take}
use Rattle.kp_read.proofs.copies.Given as goal

abbrev pub invariant-loop-line : goal.invariant-loop-line
invariant-loop-line l = l.lines.items ≡ take l.line-index l.list
