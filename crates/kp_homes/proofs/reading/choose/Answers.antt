use Rattle.kp_homes.proofs.Looking.{chosen_live}
use Rattle.kp_homes.proofs.reading.choose.Goals as goal

pub returns-clause-live : goal.returns-clause-live
returns-clause-live g c = chosen_live _ _ c.in_ok-a.a c.in_ok-b.b c.chosen.result c.in_ok-a.ensures.open c.in_ok-b.ensures.open c.chosen.ensures
