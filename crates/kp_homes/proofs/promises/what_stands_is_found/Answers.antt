use Rattle.kp_homes.proofs.Finding.{stands_found}
use Rattle.kp_homes.proofs.promises.what_stands_is_found.Goals as goal

pub returns : goal.returns
returns c = λ node k d v f is finds. stands_found node k d v f is finds
