use Rattle.kp_model.specs.Poured.{node_of}
use Rattle.kp_cells.proofs.Poured.{node_poured, node_settled, if_poured, stays_settled}
use Rattle.kp_cells.proofs.pour.CellsFill.node.Goals as goal

pub returns-clause-set : goal.returns-clause-set
returns-clause-set c = if_poured c.pour_node.result
    (λ e. node_poured c.args.self.now c.requires.may _ c.args.path.now (node_of c.args.content.now c.args.acl.now c.args.meta.now) e)
    c.pour_node.ensures.ok

pub returns-clause-may : goal.returns-clause-may
returns-clause-may c = stays_settled c.pour_node.result c.args.self.now _
    (λ e. node_settled c.args.self.now c.requires.may _ c.args.path.now (node_of c.args.content.now c.args.acl.now c.args.meta.now) e)
    c.requires.may c.pour_node.ensures.ok c.pour_node.ensures.err
