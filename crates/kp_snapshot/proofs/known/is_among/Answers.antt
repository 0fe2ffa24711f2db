use Rattle.kp_snapshot.proofs.Numbers.{found, missed}
use Rattle.kp_snapshot.proofs.known.is_among.Goals as goal

pub returns-in-Ok : goal.returns-in-Ok
returns-in-Ok c = found c.args.ids.now c.args.id c.in-Ok.field-0 c.in-Ok.ensures.position c.requires

pub returns-in-Err : goal.returns-in-Err
returns-in-Err c = missed c.args.ids.now c.args.id c.in-Err.field-0 c.in-Err.ensures.position c.requires
