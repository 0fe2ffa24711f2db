use Rattle.kp_node.proofs.Ends.{settled_law}
use Rattle.kp_node.proofs.ending.settled_is_all.Goals as goal

pub returns : goal.returns
returns c = settled_law
