use Rattle.std.proofs.Common.{◌≡◌}
use Rattle.std.specs.Prelude.{replicate}
use Rattle.kp_step.specs.Asking.{own_image}
use Rattle.kp_node.specs.Parts.{node_of}
use Rattle.kp_node.specs.Steps.{images}
use Rattle.kp_node.proofs.node.Node.copies.Given as goal

abbrev pub invariant-loop-turn : goal.invariant-loop-turn
invariant-loop-turn l = l.list.items ≡ replicate l.turn (own_image images (node_of l.self))
