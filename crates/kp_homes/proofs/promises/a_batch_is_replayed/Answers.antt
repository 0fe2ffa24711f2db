use Rattle.kp_homes.proofs.Lifting.{found_more}
use Rattle.kp_homes.proofs.promises.a_batch_is_replayed.Goals as goal

pub returns : goal.returns
returns c = λ k l v f rs finds fits. found_more k l v f rs finds fits
