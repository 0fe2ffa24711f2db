use Rattle.kp_node.proofs.Risen.{rising_loosens}
use Rattle.kp_node.proofs.ahead.rise_if.Goals as goal

pub change_each-requires-clause-loosens : goal.change_each-requires-clause-loosens
change_each-requires-clause-loosens c = rising_loosens c.args.zxid
