use Rattle.kp_node.proofs.Came.{left_holds, left}
use Rattle.kp_node.proofs.node.Node.let_out.Goals as goal

pub invariant_of-self : goal.invariant_of-self
invariant_of-self c = left_holds _ _ c.self.view_is c.self.invariant c.args.conn _ _ c.take_ready-ready.ensures.seats c.take_ready-ready.ensures.watches c.requires

pub returns : goal.returns
returns c = left _ _ c.self.view_is c.self.invariant c.args.conn _ _ c.take_ready-ready.ensures.seats c.take_ready-ready.ensures.watches _ c.take_ready-ready.ensures.piece
