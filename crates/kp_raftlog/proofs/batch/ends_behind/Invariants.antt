use Rattle.std.proofs.Common.{◌≡◌, ◌≤◌, ◌-◌, ◌++◌, take, drop, length, map}
use Rattle.kp_entry.specs.Entries.{entries}
use Rattle.kp_entry.specs.Log.{batch, behind}
use Rattle.kp_entry.specs.Pieces.{AreOf}
use Rattle.kp_raftlog.specs.Kept.{joined}
use Rattle.kp_raftlog.proofs.batch.ends_behind.Given as goal

abbrev pub invariant-loop-count : goal.invariant-loop-count
invariant-loop-count l = record {
  so_far : batch 64 1048576 (behind l.log l.after) ≡ take l.count (behind l.log l.after) ++ batch (64 - l.count) (1048576 - l.end) (drop l.count (behind l.log l.after));
  within : l.count ≤ length (behind l.log l.after);
  many : length l.ends.items ≡ l.count;
  at : l.end ≡ length (joined (take l.count (behind l.log l.after)));
  ended : AreOf (joined (take l.count (behind l.log l.after))) l.ends.items (map entries.spell (take l.count (behind l.log l.after)));
}
