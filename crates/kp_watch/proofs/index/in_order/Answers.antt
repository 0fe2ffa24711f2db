use Rattle.kp_watch.proofs.Listed.{sorted_lists}
use Rattle.kp_watch.proofs.index.in_order.Goals as goal

pub returns : goal.returns
returns c apart = sorted_lists _ _ c.sort_unstable.ensures.permutation c.sort_unstable.ensures.sorted apart
