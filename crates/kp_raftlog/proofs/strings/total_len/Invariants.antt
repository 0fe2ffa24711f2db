use Rattle.std.proofs.Common.{◌≡◌, ◌≤◌}
use Rattle.kp_entry.specs.Heads.{part_of}
use Rattle.kp_raftlog.specs.Kept.{total}
use Rattle.kp_raftlog.proofs.strings.total_len.Given as goal

abbrev pub invariant-loop-index : goal.invariant-loop-index
invariant-loop-index l = record {
  sum : l.sum ≡ total (part_of l.first l.index l.from);
  above : l.first ≤ l.index;
}
