use Rattle.kp_model.proofs.GoodSteps.{act_on_sound}
use Rattle.kp_model.proofs.Holders.{act_on_sessions}
use Rattle.kp_model.proofs.laws.operations_keep_states_sound.Goals as goal

pub returns-clause-sound : goal.returns-clause-sound
returns-clause-sound c = act_on_sound

pub returns-clause-sessions : goal.returns-clause-sessions
returns-clause-sessions c = act_on_sessions
