use Rattle.std.proofs.Common.{◌≤◌, ◌+◌, arith}
use Rattle.kp_entry.specs.Log.{entry_at}
use Rattle.kp_node.proofs.Kept.{one_more, still_open}
use Rattle.kp_node.proofs.keeping.put_log.Goals as goal

pub loop-place-preserved : goal.loop-place-preserved
loop-place-preserved c =
    let log = c.args.raft.now.held.log in
    let so = c.loop-place.invariant in
    record {
      so_far = one_more log c.args.records.now c.loop-place.records c.put_entry.new.records c.loop-place.place so.above so.so_far c.in_ok-put_entry.ensures;
      unended = still_open c.loop-place.records c.put_entry.new.records (entry_at log (c.loop-place.place + 1)) so.unended c.in_ok-put_entry.ensures;
      above = let le : log.base ≤ c.loop-place.place = so.above in omega (arith, le);
    }
