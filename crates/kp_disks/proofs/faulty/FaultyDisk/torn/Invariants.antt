use Rattle.std.proofs.Common.{◌≡◌, take}
use Rattle.kp_disks.specs.Faulty.{torn}
use Rattle.kp_disks.proofs.faulty.FaultyDisk.torn.Given as goal

abbrev pub invariant-loop-place : goal.invariant-loop-place
invariant-loop-place l = l.left.items ≡ torn l.fill l.safe (take l.place l.byte-items)
