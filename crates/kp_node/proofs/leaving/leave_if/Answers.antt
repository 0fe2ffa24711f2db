use Rattle.kp_node.proofs.Left.{leaving_loosens}
use Rattle.kp_node.proofs.leaving.leave_if.Goals as goal

pub change_each-requires-clause-loosens : goal.change_each-requires-clause-loosens
change_each-requires-clause-loosens c = leaving_loosens c.args.rose c.args.zxid
