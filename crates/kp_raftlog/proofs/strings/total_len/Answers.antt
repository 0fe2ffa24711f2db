use Rattle.std.proofs.Common.{◌≤◌, ◌<◌, arith, length, slice_get, List, ℕ, ap}
use Rattle.kp_raftlog.proofs.Parts.{some_is, total_next}
use Rattle.kp_raftlog.proofs.strings.total_len.Goals as goal

pub loop-index-preserved : goal.loop-index-preserved
loop-index-preserved c =
    let e = some_is c.bytes_of-len.result.now (slice_get c.args.from.now c.loop-index.index) c.bytes_of-len.ensures.bytes c.bytes_of-len.ensures.fits in
    let lt : c.loop-index.index < length c.args.from.now = omega (arith, c.loop-index-test.true, c.requires.to) in
    let above : c.args.first ≤ c.loop-index.index = c.loop-index.invariant.above in
    let step = total_next c.args.first c.loop-index.index c.args.from.now e.0 above lt e.1 in
    let len = ap (λ (x : List ℕ). length x) e.2 in
    record { sum = omega (arith, step, len, c.loop-index.invariant.sum); above = omega (arith, above) }
