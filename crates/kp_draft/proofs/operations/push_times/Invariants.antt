use Rattle.std.proofs.Common.{◌≡◌, ◌++◌, replicate}
use Rattle.kp_draft.proofs.operations.push_times.Given as goal

abbrev pub invariant-loop-done : goal.invariant-loop-done
invariant-loop-done l = l.codes ≡ l.fn.codes ++ replicate l.done l.code
