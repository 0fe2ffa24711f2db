use Rattle.kp_node.proofs.Fed.{counted_holds}
use Rattle.kp_node.proofs.node.Node.count_event.Goals as goal

pub invariant_of-self : goal.invariant_of-self
invariant_of-self c = counted_holds _ _ c.self.view_is c.self.invariant c.requires
