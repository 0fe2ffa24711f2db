use Rattle.std.proofs.Common.{◌≡◌, ◌++◌}
use Rattle.kp_cells.proofs.kin.numbers_of.Given as goal

abbrev pub invariant-loop-number : goal.invariant-loop-number
invariant-loop-number l = l.ids.items ++ l.number-iterator ≡ l.set.keys
