use Rattle.kp_node.proofs.Delivered.{answer_so}
use Rattle.kp_node.proofs.node.Node.deliver_answer.Goals as goal

pub returns-clause-ok : goal.returns-clause-ok
returns-clause-ok c = answer_so c.args.now _ _ _ c.args.answer c.answered-given.ensures.ok
