use Rattle.kp_worlds.proofs.Forwards.{forwards_are_of_clients}
use Rattle.kp_worlds.proofs.laws.forwards_are_of_clients.Goals as goal

pub returns : goal.returns
returns g c = forwards_are_of_clients g.row.I.Denot
