use Rattle.kp_model.proofs.GoodSteps.{after_sound}
use Rattle.kp_model.proofs.GoodEmpty.{empty_sound}
use Rattle.kp_model.proofs.laws.replay_keeps_states_sound.Goals as goal

pub returns-clause-empty : goal.returns-clause-empty
returns-clause-empty c = empty_sound

pub returns-clause-after : goal.returns-clause-after
returns-clause-after c = after_sound
