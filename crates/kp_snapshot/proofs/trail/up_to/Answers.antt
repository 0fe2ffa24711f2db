use Rattle.kp_snapshot.proofs.Kept.{parted_found, parted_missed}
use Rattle.kp_snapshot.proofs.trail.up_to.Goals as goal

pub returns-in-Ok : goal.returns-in-Ok
returns-in-Ok c = parted_found c.args.ups.now c.args.most c.in-Ok.at c.in-Ok.ensures.position

pub returns-in-Err : goal.returns-in-Err
returns-in-Err c = parted_missed c.args.ups.now c.args.most c.in-Err.at c.in-Err.ensures.position
