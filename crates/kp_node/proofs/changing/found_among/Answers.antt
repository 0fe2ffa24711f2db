use Rattle.kp_node.proofs.Changed.{ready_law, lost_law}
use Rattle.kp_node.proofs.changing.found_among.Goals as goal

pub returns : goal.returns
returns c = record { ready = ready_law; lost = lost_law }
