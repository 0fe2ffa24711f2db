use Rattle.kp_node.proofs.Came.{given}
use Rattle.kp_node.proofs.node.Node.accept.Goals as goal

pub returns-clause-ok : goal.returns-clause-ok
returns-clause-ok c = given _ _ _ _ _ c.quiet.ensures c.in_ok-conn.ensures.step
