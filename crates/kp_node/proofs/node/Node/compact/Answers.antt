use Rattle.kp_node.proofs.Sent.{may_compact, made_holds, made_so}
use Rattle.kp_node.proofs.node.Node.compact.Goals as goal

pub step-requires : goal.step-requires
step-requires c = may_compact _ _ c.self.view_is c.self.invariant _ c.applied-index.ensures

pub invariant_of-self-2 : goal.invariant_of-self-2
invariant_of-self-2 c = made_holds _ _ c.self.view_is c.self.invariant _ c.applied-index.ensures _ _ c.in_ok-out.ensures.ok c.requires _ c.commit-commit.ensures.index c.commit-commit.ensures.to

pub returns-clause-ok : goal.returns-clause-ok
returns-clause-ok c = made_so _ _ c.self.view_is c.self.invariant _ c.applied-index.ensures _ _ c.in_ok-out.ensures.ok c.in_ok-out.ensures.image
