use Rattle.std.proofs.Common.{◌≡◌, ◌≤◌, ◌++◌, false}
use Rattle.kp_entry.specs.Heads.{appended, part_of}
use Rattle.kp_entry.specs.Records.{has_base}
use Rattle.kp_entry.proofs.records.Records.push_entries.Given as goal

abbrev pub invariant-loop-index : goal.invariant-loop-index
invariant-loop-index l = record {
  so_far : l.self ≡ l.fn.self ++ appended (part_of l.first l.index l.from);
  unended : has_base l.self ≡ false;
  above : l.first ≤ l.index;
}
