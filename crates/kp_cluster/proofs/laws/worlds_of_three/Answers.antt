use Rattle.kp_cluster.proofs.WorldRuns.{entry_is_applied, image_is_taken}
use Rattle.kp_cluster.proofs.laws.worlds_of_three.Goals as goal

pub returns-clause-applied : goal.returns-clause-applied
returns-clause-applied c = entry_is_applied

pub returns-clause-installed : goal.returns-clause-installed
returns-clause-installed c = image_is_taken
