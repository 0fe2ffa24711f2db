use Rattle.std.proofs.Common.{sym}
use Rattle.kp_snapshot.proofs.Kept.{not_there}
use Rattle.kp_snapshot.proofs.trail.has.Goals as goal

pub returns-in-Err : goal.returns-in-Err
returns-in-Err c = λ test path ups le. sym (not_there test path c.args.ups.now c.args.len c.in-Err.field-0 c.in-Err.ensures.position ups le)
