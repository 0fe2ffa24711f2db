use Rattle.kp_node.proofs.Came.{given}
use Rattle.kp_node.proofs.node.Node.drain.Goals as goal

pub returns : goal.returns
returns c = given _ _ _ _ _ c.quiet.ensures c.let_out-ready.ensures
