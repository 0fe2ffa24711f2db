use Rattle.kp_node.proofs.Sent.{may_beat, sent_holds, sent, sent_few}
use Rattle.kp_node.proofs.node.Node.send.Goals as goal

pub step-requires : goal.step-requires
step-requires c = may_beat _ _ c.self.view_is c.self.invariant _ _ c.applied-index.ensures c.in_ok-images.ensures

pub invariant_of-self-2 : goal.invariant_of-self-2
invariant_of-self-2 c = sent_holds _ _ c.self.view_is c.self.invariant _ _ c.applied-index.ensures c.in_ok-images.ensures _ _ c.in_ok-out.ensures.ok c.requires

pub returns-clause-ok : goal.returns-clause-ok
returns-clause-ok c = sent _ _ c.self.view_is c.self.invariant _ _ c.applied-index.ensures c.in_ok-images.ensures _ _ c.in_ok-out.ensures.ok c.in_ok-out.ensures.image

pub returns-clause-few : goal.returns-clause-few
returns-clause-few c = sent_few _ _ c.self.view_is c.self.invariant _ _ c.applied-index.ensures c.in_ok-images.ensures _ _ c.in_ok-out.ensures.ok
