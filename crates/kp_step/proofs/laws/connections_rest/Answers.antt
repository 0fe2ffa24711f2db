use Rattle.kp_step.proofs.Lawful.{connections_rest}
use Rattle.kp_step.proofs.laws.connections_rest.Goals as goal

pub returns : goal.returns
returns g c = connections_rest g.row.I.Denot
