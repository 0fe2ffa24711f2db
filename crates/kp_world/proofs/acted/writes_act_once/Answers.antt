use Rattle.kp_world.proofs.Acting.{writes_counted, others_change_nothing}
use Rattle.kp_world.proofs.acted.writes_act_once.Goals as goal

pub returns-clause-counted : goal.returns-clause-counted
returns-clause-counted c = writes_counted

pub returns-clause-others : goal.returns-clause-others
returns-clause-others c = others_change_nothing
