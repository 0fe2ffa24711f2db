use Rattle.std.specs.Prelude.{drop}
use Rattle.kp_node.specs.Concerned.{hearers}
use Rattle.kp_node.proofs.Concerns.{HasSoFar}
use Rattle.kp_node.proofs.concerned.hearers_of.Given as goal

abbrev pub invariant-loop-one : goal.invariant-loop-one
invariant-loop-one l = HasSoFar (hearers l.fired) (hearers (drop l.one-index l.fired)) l.set
