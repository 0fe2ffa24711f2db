use Rattle.kp_world.proofs.Laws.{logs_match_law}
use Rattle.kp_world.proofs.log_matching.Goals as goal

pub returns : goal.returns
returns c = logs_match_law
