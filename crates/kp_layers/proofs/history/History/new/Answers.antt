use Rattle.kp_layers.proofs.Counted.{sound_empty}
use Rattle.kp_layers.proofs.Filled.{counted_empty}
use Rattle.kp_layers.proofs.history.History.new.Goals as goal

pub invariant_of-result : goal.invariant_of-result
invariant_of-result g c = (sound_empty g.S.Group.PartialEq.eq g.S.Grouping.group_of _ _ _ c.new.ensures.empty c.new-2.ensures.items c.new-3.ensures.none c.new-3.ensures.filled, counted_empty _ c.new.ensures.empty)
