use Rattle.std.proofs.Common.{◌≤◌, length, ap, arith}
use Rattle.kp_disks.specs.Faulty.{FaultyPlate}
use Rattle.kp_disks.proofs.Safe.{write_leaves}
use Rattle.kp_disks.proofs.faulty.FaultyDiskDisk.write_at.Goals as goal

pub invariant_of-self : goal.invariant_of-self
invariant_of-self c =
    let same = ap (λ (d : FaultyPlate). length d.held) c.self.view_is in
    let counted = ap (λ (d : FaultyPlate). length d.held) c.is_next_refused.ensures.calls in
    let le : c.args.at ≤ length c.self.inside.disk.held = omega (arith, c.requires.inside, same, counted) in
    write_leaves _ _ _ _ _ _ _ _ le c.in-Ok.ensures.bytes c.in-Ok.ensures.past c.self.invariant
