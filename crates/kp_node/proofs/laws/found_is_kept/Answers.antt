use Rattle.kp_node.proofs.Found.{found_is_kept}
use Rattle.kp_node.proofs.laws.found_is_kept.Goals as goal

pub returns : goal.returns
returns c = found_is_kept
