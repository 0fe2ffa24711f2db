use Rattle.kp_model.proofs.GoodSteps.{apply_good}
use Rattle.kp_model.proofs.Holders.{apply_holders}
use Rattle.kp_model.proofs.laws.entries_keep_states_sound.Goals as goal

pub returns-clause-good : goal.returns-clause-good
returns-clause-good c = apply_good

pub returns-clause-holders : goal.returns-clause-holders
returns-clause-holders c = apply_holders
