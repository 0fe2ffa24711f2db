use Rattle.std.proofs.Common.{◌≡◌, ◌≤◌, ◌-◌, length, take}
use Rattle.std.specs.Prelude.{IfSome}
use Rattle.kp_journal.proofs.disk.read_front.Given as goal

abbrev pub invariant-loop-filled : goal.invariant-loop-filled
invariant-loop-filled g l = record {
  inside : l.filled ≤ length l.into;
  same : length l.into ≡ length l.fn.into;
  bytes : IfSome (g.D.Disk.held l.disk) (λ xs. (take l.filled l.into ≡ take l.filled xs) × (l.filled ≤ length xs));
  held : g.D.Disk.held l.disk ≡ g.D.Disk.held l.fn.disk;
  past : g.D.Disk.past l.disk ≡ g.D.Disk.past l.fn.disk;
  quiet : g.D.Disk.faults l.disk ≡ g.D.Disk.faults l.fn.disk;
  later : l.fn.moments ≤ l.moments;
}

abbrev pub decreases-loop-filled : goal.decreases-loop-filled
decreases-loop-filled g l = length l.into - l.filled
