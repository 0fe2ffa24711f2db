use Rattle.kp_node.proofs.Committed.{apply_holds}
use Rattle.kp_node.proofs.node.Node.apply_one.Goals as goal

pub invariant_of-self-2 : goal.invariant_of-self-2
invariant_of-self-2 c = apply_holds _ _ c.self.view_is c.self.invariant c.args.now _ c.commit-commit.ensures.index c.commit-commit.ensures.to c.requires.there c.requires.events _ c.ground_now-ground.ensures _ _ _ _ _ _ c.in_ok-applied.ensures.ok
