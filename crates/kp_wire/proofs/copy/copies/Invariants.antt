use Rattle.std.proofs.Common.{◌≡◌, take}
use Rattle.kp_wire.proofs.copy.copies.Given as goal

abbrev pub invariant-loop-answer : goal.invariant-loop-answer
invariant-loop-answer l = l.items.items ≡ take l.answer-index l.from
