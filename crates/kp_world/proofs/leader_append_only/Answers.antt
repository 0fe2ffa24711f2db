use Rattle.kp_world.proofs.Laws.{leader_appends_only, leader_keeps_its_log}
use Rattle.kp_world.proofs.leader_append_only.Goals as goal

pub returns-clause-written : goal.returns-clause-written
returns-clause-written c = leader_appends_only

pub returns-clause-own : goal.returns-clause-own
returns-clause-own c = leader_keeps_its_log
