use Rattle.kp_node.proofs.Greets.{greeting_law}
use Rattle.kp_node.proofs.greetings.greeting_is_defined.Goals as goal

pub returns : goal.returns
returns c = greeting_law
