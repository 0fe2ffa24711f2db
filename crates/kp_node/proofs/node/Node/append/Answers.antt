use Rattle.kp_node.proofs.Entering.{append_given}
use Rattle.kp_node.proofs.node.Node.append.Goals as goal

pub returns-clause-ok : goal.returns-clause-ok
returns-clause-ok c = append_given c.args.now c.args.mail.now _ _ _ _ _ c.self.view_is c.self.invariant c.in_ok-taken.ensures.ok c.give_taken.ensures
