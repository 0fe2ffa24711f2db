use Rattle.kp_node.proofs.Sent.{beat_so}
use Rattle.kp_node.proofs.node.Node.beat.Goals as goal

pub returns-clause-ok : goal.returns-clause-ok
returns-clause-ok c = beat_so _ _ _ _ _ c.in_ok-out.ensures.ok c.len.ensures c.behind.ensures
