use Rattle.kp_node.proofs.Resting.{one_is_all}
use Rattle.kp_node.proofs.laws.one_is_all.Goals as goal

pub returns : goal.returns
returns c = one_is_all
