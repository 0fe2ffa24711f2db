use Rattle.kp_disks.proofs.Safe.{cut_leaves}
use Rattle.kp_disks.proofs.faulty.FaultyDiskDisk.cut.Goals as goal

pub invariant_of-self : goal.invariant_of-self
invariant_of-self c = cut_leaves _ _ _ _ _ _ _ c.in-Ok.ensures.bytes c.in-Ok.ensures.past c.self.invariant
