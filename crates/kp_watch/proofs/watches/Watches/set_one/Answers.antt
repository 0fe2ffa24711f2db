use Rattle.kp_watch.proofs.Grows.{grown_by_one}
use Rattle.kp_watch.proofs.watches.Watches.set_one.Goals as goal

pub returns-in-None-clause-grown : goal.returns-in-None-clause-grown
returns-in-None-clause-grown c = grown_by_one c.add.result _ _ _ c.add.ensures.ok c.add.ensures.err
