use Rattle.kp_world.proofs.NetworkRuns.{leader_is_elected, entries_are_applied, entries_are_dropped, step_is_torn, image_is_taken}
use Rattle.kp_world.proofs.network.networks_of_three.Goals as goal

pub returns-clause-elected : goal.returns-clause-elected
returns-clause-elected c = leader_is_elected

pub returns-clause-applied : goal.returns-clause-applied
returns-clause-applied c = entries_are_applied

pub returns-clause-dropped : goal.returns-clause-dropped
returns-clause-dropped c = entries_are_dropped

pub returns-clause-torn : goal.returns-clause-torn
returns-clause-torn c = step_is_torn

pub returns-clause-installed : goal.returns-clause-installed
returns-clause-installed c = image_is_taken
