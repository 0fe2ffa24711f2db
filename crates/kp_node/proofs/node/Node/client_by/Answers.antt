use Rattle.std.proofs.Common.{Some, ap, ◌∙◌}
use Rattle.kp_node.specs.Facts.{words}
use Rattle.kp_node.proofs.Phased.{first_there, any_choice}
use Rattle.kp_node.proofs.node.Node.client_by.Goals as goal

pub client_first-requires-clause-phase : goal.client_first-requires-clause-phase
client_first-requires-clause-phase c = first_there _ _ (c.requires.phase ∙ ap Some c.in-Fresh.is) tt

pub returns-in-Closing-clause-ok : goal.returns-in-Closing-clause-ok
returns-in-Closing-clause-ok c = (any_choice, c.client_gone.ensures words any_choice)
