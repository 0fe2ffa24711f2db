use Rattle.kp_node.proofs.Heard.{hears_on}
use Rattle.kp_node.proofs.laws.hears_on.Goals as goal

pub returns : goal.returns
returns c = hears_on
