use Rattle.std.proofs.Common.{◌*◌}
use Rattle.std.proofs.lemmas.Bool.{ltb-true, lt-ltb}
use Rattle.kp_model.specs.Majority.{count}
use Rattle.kp_model.proofs.laws.majorities_are_counted.Goals as goal

pub returns-clause-tested : goal.returns-clause-tested
returns-clause-tested c n f p = record { most = ltb-true n (2 * count n f) p }

pub returns-clause-found : goal.returns-clause-found
returns-clause-found c n f q = lt-ltb n (2 * count n f) q.most
