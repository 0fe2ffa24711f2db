use Rattle.kp_step.proofs.Unknown.{unknown_is_unimplemented}
use Rattle.kp_step.proofs.laws.unknown_requests.Goals as goal

pub returns : goal.returns
returns c = unknown_is_unimplemented
