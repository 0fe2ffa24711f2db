use Rattle.kp_snapshot.proofs.Judged.{none_stand}
use Rattle.kp_snapshot.proofs.trail.Trail.new.Goals as goal

pub returns : goal.returns
returns c = none_stand c.new.result.items c.new.ensures.items
