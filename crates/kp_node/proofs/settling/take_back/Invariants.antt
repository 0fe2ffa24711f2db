use Rattle.std.specs.Prelude.{◌≡◌}
use Rattle.kp_node.specs.Deciding.{without_last}
use Rattle.kp_node.proofs.settling.take_back.Given as goal

abbrev pub invariant-loop-done : goal.invariant-loop-done
invariant-loop-done l = l.conn ≡ without_last l.done l.fn.conn
