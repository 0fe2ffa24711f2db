use Rattle.kp_node.proofs.Behind.{welcome_law, heard_law}
use Rattle.kp_node.proofs.welcoming.welcome_is_behind.Goals as goal

pub returns : goal.returns
returns c = record { session = welcome_law; heard = heard_law }
