use Rattle.std.proofs.Common.{◌≤◌, ◌<◌, length, sym, ◌∙◌, subst, arith}
use Rattle.kp_io.specs.Crash.{MayLeave}
use Rattle.kp_disks.specs.Faulty.{FaultyPlate}
use Rattle.kp_disks.proofs.Safe.{torn_step, left_after}
use Rattle.kp_disks.proofs.faulty.FaultyDisk.torn.Goals as goal

pub loop-place-preserved : goal.loop-place-preserved
loop-place-preserved c =
    let lt : c.loop-place.place < length c.bytes-byte-items.result.now = c.loop-place-test.true in
    torn_step c.args.fill _ c.as_slice-safe.result.now c.bytes-byte-items.result.now _ _ c.loop-place.place lt c.loop-place.invariant c.torn_byte.ensures c.in_ok-push.ensures.items

pub returns-clause-left : goal.returns-clause-left
returns-clause-left c =
    let end : length c.bytes-byte-items.result.now ≤ c.loop-place.place = omega (arith, c.loop-place-test.false) in
    subst (λ (d : FaultyPlate). MayLeave d.past.now c.loop-place.left.items) c.self.view_is
    (left_after c.args.fill c.loop-place.place c.as_slice-safe.result.now c.bytes-byte-items.result.now _ _ _ c.loop-place.invariant end c.bytes-byte-items.ensures
    (c.self.invariant.1 ∙ sym c.as_slice-safe.ensures.value) c.self.invariant.0)
