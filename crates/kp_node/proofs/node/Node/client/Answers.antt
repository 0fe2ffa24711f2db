use Rattle.kp_node.specs.Facts.{words}
use Rattle.kp_node.proofs.Phased.{none_at, any_choice}
use Rattle.kp_node.proofs.node.Node.client.Goals as goal

pub client_gone-requires-clause-gone : goal.client_gone-requires-clause-gone
client_gone-requires-clause-gone c = none_at _ _ c.self.view_is c.args.conn c.phase_at.result c.in-None.is c.phase_at.ensures

pub returns-in-None-clause-ok : goal.returns-in-None-clause-ok
returns-in-None-clause-ok c = (any_choice, c.client_gone.ensures words any_choice)
