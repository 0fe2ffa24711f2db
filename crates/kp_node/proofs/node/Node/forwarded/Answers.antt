use Rattle.std.proofs.Common.{None, subst}
use Rattle.kp_node.specs.Parts.{node_of}
use Rattle.kp_node.specs.Steps.{Reacts}
use Rattle.kp_node.specs.Proposing.{proposed_by}
use Rattle.kp_node.proofs.Asked.{forward_so}
use Rattle.kp_node.proofs.node.Node.forwarded.Goals as goal

pub returns-clause-ok : goal.returns-clause-ok
returns-clause-ok c = forward_so _ _ c.args.now c.args.term c.args.from c.args.body _ _
    (subst (λ l. Reacts (proposed_by (node_of c.args.self.now) c.args.now l) None c.args.self.now c.in_ok-out.out c.propose.new.self) c.in_ok-bodies.ensures c.in_ok-out.ensures.ok) c.behind.ensures
