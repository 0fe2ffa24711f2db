use Rattle.kp_world.proofs.Longest.{one_list_holds}
use Rattle.kp_world.proofs.network.one_list.Goals as goal

pub returns : goal.returns
returns g c = one_list_holds g.row.I.Denot
