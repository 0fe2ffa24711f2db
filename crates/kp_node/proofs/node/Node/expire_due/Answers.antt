use Rattle.kp_node.proofs.Asked.{expire_so}
use Rattle.kp_node.proofs.node.Node.expire_due.Goals as goal

pub returns-clause-ok : goal.returns-clause-ok
returns-clause-ok c = expire_so _ _ c.args.now _ _ _ _ c.in_ok-out.ensures.ok c.in_ok-out.ensures.count c.in_ok-ends.ensures c.behind.ensures
