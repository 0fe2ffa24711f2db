use Rattle.kp_cluster.proofs.EpochCloses.{closes_end}
use Rattle.kp_cluster.proofs.serving.closes_end_their_connections.Goals as goal

pub returns : goal.returns
returns g c = closes_end g.row.I.Denot
