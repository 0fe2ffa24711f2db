use Rattle.kp_node.proofs.Delivered.{append_so}
use Rattle.kp_node.proofs.node.Node.deliver_append.Goals as goal

pub returns-clause-ok : goal.returns-clause-ok
returns-clause-ok c = append_so c.args.now _ _ _ c.args.append c.append-given.ensures.ok
