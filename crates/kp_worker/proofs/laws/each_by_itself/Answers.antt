use Rattle.kp_worker.proofs.Singled.{each_by_itself}
use Rattle.kp_worker.proofs.laws.each_by_itself.Goals as goal

pub returns : goal.returns
returns g c = each_by_itself
