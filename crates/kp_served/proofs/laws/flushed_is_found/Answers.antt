use Rattle.kp_served.proofs.Lasting.{flushed_lasts}
use Rattle.kp_served.proofs.laws.flushed_is_found.Goals as goal

pub returns : goal.returns
returns g c = flushed_lasts {G = g.H.Disk} g.H.Disk.held g.H.Disk.past g.H.Disk.faults
