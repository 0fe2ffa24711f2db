use Rattle.kp_world.proofs.Worlds.{one_log_holds}
use Rattle.kp_world.proofs.network.one_log.Goals as goal

pub returns : goal.returns
returns g c = one_log_holds g.row.I.Denot
