use Rattle.std.proofs.Common.{◌≡◌, ◌≤◌, ◌-◌, ◌++◌, map}
use Rattle.std.specs.List.{AllByRecursion}
use Rattle.kp_entry.specs.Entries.{entries}
use Rattle.kp_entry.specs.Heads.{part_of}
use Rattle.kp_raftlog.specs.Kept.{total}
use Rattle.kp_raftlog.proofs.strings.push_all.Given as goal

abbrev pub invariant-loop-index : goal.invariant-loop-index
invariant-loop-index l = record {
  strings : l.region.strings ≡ l.fn.region.strings ++ map entries.spell (part_of l.first l.index l.from);
  records : l.region.spare_records ≡ l.fn.region.spare_records - (l.index - l.first);
  bytes : l.region.spare_bytes ≡ l.fn.region.spare_bytes - total (part_of l.first l.index l.from);
  fits : AllByRecursion entries.Fits (part_of l.first l.index l.from);
  above : l.first ≤ l.index;
}
