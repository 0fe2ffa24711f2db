use Rattle.std.specs.Prelude.{◌≡◌, map}
use Rattle.kp_node.proofs.concerned.listed.Given as goal

abbrev pub invariant-loop-number : goal.invariant-loop-number
invariant-loop-number l = l.list.items ≡ map (λ n. n.now) l.yielded
