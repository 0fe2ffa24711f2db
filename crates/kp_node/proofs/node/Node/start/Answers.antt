use Rattle.kp_node.proofs.Starting.{start_holds_so}
use Rattle.kp_node.proofs.node.Node.start.Goals as goal

pub invariant_of-result : goal.invariant_of-result
invariant_of-result c = start_holds_so c.args.node c.args.members c.args.now c.args.stored.now _ _ _ c.in-Ok.ensures.raft c.in_ok-storage.ensures c.requires.members _ _ _ c.new.ensures c.new-in-Ok.ensures c.new-in-Ok-2.ensures
