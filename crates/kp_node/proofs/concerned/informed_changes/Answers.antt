use Rattle.kp_node.proofs.Concerns.{informed_law}
use Rattle.kp_node.proofs.concerned.informed_changes.Goals as goal

pub returns : goal.returns
returns c = informed_law
