use Rattle.kp_snapshot.proofs.Numbers.{last_is_below}
use Rattle.kp_snapshot.proofs.known.is_above.Goals as goal

pub returns-in-Some : goal.returns-in-Some
returns-in-Some c = last_is_below c.args.ids.now c.args.id c.in-Some.last.now c.requires c.in-Some.ensures.value
