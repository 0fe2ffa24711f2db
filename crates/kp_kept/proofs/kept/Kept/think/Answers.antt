use Rattle.std.proofs.Common.{ap, Err}
use Rattle.kp_homes.proofs.Refusals.{err_same}
use Rattle.kp_event.specs.declared.fail.KeptFail.TheVariants as kept_fail
use Rattle.kp_kept.proofs.Thoughts.{thought_fits}
use Rattle.kp_kept.proofs.kept.Kept.think.Goals as goal

pub returns-in-Ok-clause-fits : goal.returns-in-Ok-clause-fits
returns-in-Ok-clause-fits g c = thought_fits c.make_room.new.self c.take.new.self c.args.event c.take.result c.take.ensures.moves

pub returns-in-Err-clause-dead : goal.returns-in-Err-clause-dead
returns-in-Err-clause-dead g c = λ why.
    let d = c.in-Err.ensures.dead why in
    ((λ e. d.0 (ap Err (err_same c.in-Err.fail (kept_fail.Dead why) e))), λ e. ap Err (err_same c.in-Err.fail (kept_fail.Dead why) (d.1 e)))
