use Rattle.kp_world.proofs.Laws.{later_leaders_have_it, earlier_leaders_have_it}
use Rattle.kp_world.proofs.leader_completeness.Goals as goal

pub returns-clause-later : goal.returns-clause-later
returns-clause-later c = later_leaders_have_it

pub returns-clause-earlier : goal.returns-clause-earlier
returns-clause-earlier c = earlier_leaders_have_it
