use Rattle.kp_node.proofs.Reacted.{timeout_given}
use Rattle.kp_node.proofs.node.Node.timeout.Goals as goal

pub returns-clause-ok : goal.returns-clause-ok
returns-clause-ok c = timeout_given c.args.now _ _ _ _ _ _ _ c.self.view_is c.self.invariant c.foresee_timeout-forecast.ensures c.in_ok-reaction.ensures.ok c.in_ok-reaction.ensures.heard c.give.ensures
