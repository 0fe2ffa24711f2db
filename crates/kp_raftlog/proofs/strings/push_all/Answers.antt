use Rattle.std.proofs.Common.{◌-◌, ◌≡◌, ◌≤◌, ◌<◌, arith, length, slice_get, List, ℕ, ap}
use Rattle.kp_region.specs.Marked.{Marked}
use Rattle.kp_raftlog.proofs.Parts.{some_is, total_next, total_within, fits_next, spelled_next}
use Rattle.kp_raftlog.proofs.strings.push_all.Goals as goal

pub push-requires-clause-bytes : goal.push-requires-clause-bytes
push-requires-clause-bytes c =
    let e = some_is c.bytes_of.result.now (slice_get c.args.from.now c.loop-index.index) c.bytes_of.ensures.bytes c.bytes_of.ensures.fits in
    let above : c.args.first ≤ c.loop-index.index = c.loop-index.invariant.above in
    let fit = total_within c.args.first c.loop-index.index c.args.until c.args.from.now e.0 above c.loop-index-test.true c.requires.to e.1 in
    let len = ap (λ (x : List ℕ). length x) e.2 in
    omega (arith, fit, len, c.loop-index.invariant.bytes, c.requires.bytes)

pub loop-index-preserved : goal.loop-index-preserved
loop-index-preserved c =
    let e = some_is c.bytes_of.result.now (slice_get c.args.from.now c.loop-index.index) c.bytes_of.ensures.bytes c.bytes_of.ensures.fits in
    let lt : c.loop-index.index < length c.args.from.now = omega (arith, c.loop-index-test.true, c.requires.to) in
    let above : c.args.first ≤ c.loop-index.index = c.loop-index.invariant.above in
    let step = total_next c.args.first c.loop-index.index c.args.from.now e.0 above lt e.1 in
    let len = ap (λ (x : List ℕ). length x) e.2 in
    let records : c.push.new.self.spare_records ≡ c.loop-index.region.spare_records - 1 = ap (λ (x : Marked). x.spare_records) c.push.ensures.after in
    let bytes : c.push.new.self.spare_bytes ≡ c.loop-index.region.spare_bytes - length c.bytes_of.result.now = ap (λ (x : Marked). x.spare_bytes) c.push.ensures.after in
    record {
      strings = spelled_next c.args.first c.loop-index.index c.args.from.now e.0 c.args.region.now.strings c.push.new.self.strings c.loop-index.region.strings c.bytes_of.result.now above lt e.1 e.2 c.loop-index.invariant.strings (ap (λ (x : Marked). x.strings) c.push.ensures.after);
      records = omega (arith, records, above, c.loop-index.invariant.records);
      bytes = omega (arith, bytes, len, step, c.loop-index.invariant.bytes);
      fits = fits_next c.args.first c.loop-index.index c.args.from.now e.0 above lt e.1 c.loop-index.invariant.fits e.3;
      above = omega (arith, above);
    }
