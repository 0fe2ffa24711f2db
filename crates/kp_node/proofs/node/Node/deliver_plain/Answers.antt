use Rattle.kp_node.proofs.Reacted.{mail_given}
use Rattle.kp_node.proofs.node.Node.deliver_plain.Goals as goal

pub returns-clause-ok : goal.returns-clause-ok
returns-clause-ok c = mail_given c.args.now c.args.mail _ _ _ _ _ c.self.view_is c.self.invariant c.in_ok-reaction.ensures.ok c.give.ensures c.requires.plain
