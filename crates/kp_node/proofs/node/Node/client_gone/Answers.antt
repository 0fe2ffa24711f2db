use Rattle.kp_node.proofs.Fed.{gone_given}
use Rattle.kp_node.proofs.node.Node.client_gone.Goals as goal

pub returns : goal.returns
returns c = gone_given c.args.now c.args.conn c.args.bytes.now _ _ _ _ c.self.view_is c.self.invariant c.requires.gone c.count_event.ensures c.quiet.ensures
