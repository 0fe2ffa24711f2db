use Rattle.std.proofs.Common.{◌≡◌, ◌+◌, ◌++◌, drop}
use Rattle.kp_told.proofs.Posted.{posted}
use Rattle.kp_told.proofs.letters.print_letters.Given as goal

abbrev pub invariant-loop-letter : goal.invariant-loop-letter
invariant-loop-letter g l = (l.next ≡ l.number + l.letter-index) × (l.out.items ++ posted l.from l.next (drop l.letter-index l.letters) ≡ l.fn.out.items ++ posted l.from l.number l.letters)
