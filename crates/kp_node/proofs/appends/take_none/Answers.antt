use Rattle.kp_node.proofs.Appended.{none_taken}
use Rattle.kp_node.proofs.appends.take_none.Goals as goal

pub returns-clause-ok : goal.returns-clause-ok
returns-clause-ok c = none_taken _ _ _ c.requires.agrees _ _ _ c.len-len.ensures.len c.requires.other c.in_ok-out.ensures.ok c.in_ok-out.ensures.image
