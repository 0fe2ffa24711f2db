use Rattle.kp_node.proofs.Informed.{defined}
use Rattle.kp_node.proofs.informing.informed_is_defined.Goals as goal

pub returns : goal.returns
returns c = defined
