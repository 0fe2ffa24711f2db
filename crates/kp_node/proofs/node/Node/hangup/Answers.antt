use Rattle.kp_node.proofs.Came.{given}
use Rattle.kp_node.proofs.node.Node.hangup.Goals as goal

pub returns : goal.returns
returns c = given _ _ _ _ _ c.quiet.ensures c.let_go-there.ensures
