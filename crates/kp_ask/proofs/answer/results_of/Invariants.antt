use Rattle.std.proofs.Common.{◌≡◌, ◌++◌}
use Rattle.kp_ask.specs.Answers.{results_of}
use Rattle.kp_ask.proofs.answer.results_of.Given as goal

-- what was made, and what is left to make of both
abbrev pub invariant-loop-op : goal.invariant-loop-op
invariant-loop-op l = l.results ++ results_of l.op-iterator.a.rest.now l.op-iterator.b.rest.now ≡ results_of l.ops l.replies
