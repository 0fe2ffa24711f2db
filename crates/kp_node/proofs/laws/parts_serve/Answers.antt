use Rattle.kp_node.proofs.Served.{parts_serve, given_up}
use Rattle.kp_node.proofs.laws.parts_serve.Goals as goal

pub returns : goal.returns
returns c = record { whole = parts_serve; given_up = given_up }
