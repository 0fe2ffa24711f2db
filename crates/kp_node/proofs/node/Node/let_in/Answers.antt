use Rattle.kp_node.proofs.Came.{came_holds, came}
use Rattle.kp_node.proofs.node.Node.let_in.Goals as goal

pub invariant_of-self-2 : goal.invariant_of-self-2
invariant_of-self-2 c = came_holds _ _ c.self.view_is c.self.invariant c.args.draw _ _ c.new.ensures c.in_ok-conn.ensures.ok c.requires c.in_ok-conn.ensures.idle

pub returns-clause-step : goal.returns-clause-step
returns-clause-step c = came _ _ c.self.view_is c.self.invariant c.args.draw _ _ c.new.ensures c.in_ok-conn.ensures.ok _ c.in_ok-conn.ensures.number c.in_ok-conn.ensures.fresh
