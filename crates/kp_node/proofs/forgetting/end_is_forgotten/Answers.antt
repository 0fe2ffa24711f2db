use Rattle.kp_node.proofs.Forgotten.{end_law}
use Rattle.kp_node.proofs.forgetting.end_is_forgotten.Goals as goal

pub returns : goal.returns
returns c = end_law
