use Rattle.kp_node.proofs.Came.{went_holds, went}
use Rattle.kp_node.proofs.node.Node.let_go.Goals as goal

pub invariant_of-self : goal.invariant_of-self
invariant_of-self c = went_holds _ _ c.self.view_is c.self.invariant c.args.conn _ _ c.take_away-there.ensures.seats c.take_away-there.ensures.watches c.requires

pub returns : goal.returns
returns c = went _ _ c.self.view_is c.self.invariant c.args.conn _ _ c.take_away-there.ensures.seats c.take_away-there.ensures.watches _ c.take_away-there.ensures.there
