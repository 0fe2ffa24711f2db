use Rattle.std.proofs.Common.{ap, sym}
use Rattle.kp_watch.specs.Spots.{pairs_in}
use Rattle.kp_watch.proofs.Spotted.{none_apart}
use Rattle.kp_watch.proofs.spots.numbers.Goals as goal

pub returns-in-None-clause-apart : goal.returns-in-None-clause-apart
returns-in-None-clause-apart c = none_apart _ (ap pairs_in (sym c.in-None.ensures.value))
