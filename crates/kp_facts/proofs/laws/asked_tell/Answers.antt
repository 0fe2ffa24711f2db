use Rattle.kp_facts.proofs.Asked.{tells}
use Rattle.kp_facts.proofs.laws.asked_tell.Goals as goal

pub returns : goal.returns
returns c = tells
