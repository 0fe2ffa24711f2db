use Rattle.kp_node.proofs.Handed.{back_from, back_to, is_back}
use Rattle.kp_node.proofs.proposing.take_wanted.Goals as goal

pub take_in_back-requires-clause-from : goal.take_in_back-requires-clause-from
take_in_back-requires-clause-from c = back_from _ _ _ _ _ c.last-last.ensures.index c.in-Err.ensures.err

pub take_in_back-requires-clause-to : goal.take_in_back-requires-clause-to
take_in_back-requires-clause-to c = back_to _ _ _ _ _ c.last-last.ensures.index c.in-Err.ensures.err

pub returns-in-Err-clause-err : goal.returns-in-Err-clause-err
returns-in-Err-clause-err c = is_back _ _ _ _ _ c.last-last.ensures.index c.in-Err.ensures.err _ c.take_in_back.ensures.back
