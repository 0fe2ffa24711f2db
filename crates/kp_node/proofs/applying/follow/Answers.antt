use Rattle.std.proofs.Common.{arith, length, ap}
use Rattle.kp_node.proofs.Applies.{lost_few}
use Rattle.kp_node.proofs.applying.follow.Goals as goal

pub overflow_cast-lost : goal.overflow_cast-lost
overflow_cast-lost c =
    let few = lost_few c.tidy.new.seats.seats c.deref-3.result.now in
    let same = ap length c.deref-3.ensures.value in
    omega (arith, few, same, c.count_lost.ensures, c.saturating_sub-lost.ensures, c.requires.few)
