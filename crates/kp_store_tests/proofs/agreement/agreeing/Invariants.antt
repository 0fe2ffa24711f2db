use Rattle.kp_model.specs.Good.{IsSound}
use Rattle.kp_store_tests.proofs.agreement.agreeing.Given as goal

abbrev pub invariant-loop-n : goal.invariant-loop-n
invariant-loop-n l = IsSound l.both.plain.state
