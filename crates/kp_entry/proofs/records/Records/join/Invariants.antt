use Rattle.std.proofs.Common.{◌≡◌, ◌++◌, take, false}
use Rattle.kp_entry.specs.Records.{has_base}
use Rattle.kp_entry.proofs.records.Records.join.Given as goal

abbrev pub invariant-loop-index : goal.invariant-loop-index
invariant-loop-index l = record {
  so_far : l.self ≡ l.fn.self ++ take l.index l.more;
  unended : has_base l.self ≡ false;
}
