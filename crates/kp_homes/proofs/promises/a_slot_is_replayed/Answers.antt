use Rattle.kp_homes.proofs.Carrying.{slot_found}
use Rattle.kp_homes.proofs.promises.a_slot_is_replayed.Goals as goal

pub returns : goal.returns
returns c = λ l h bytes image rs is fits. slot_found l h bytes image rs is fits
