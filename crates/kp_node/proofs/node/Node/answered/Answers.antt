use Rattle.kp_node.proofs.Naming.{answer_given}
use Rattle.kp_node.proofs.node.Node.answered.Goals as goal

pub returns-clause-ok : goal.returns-clause-ok
returns-clause-ok c = answer_given c.args.now c.args.answer.now _ _ _ _ _ c.self.view_is c.self.invariant c.in_ok-reaction.ensures.ok c.give.ensures
