use Rattle.std.proofs.Common.{◌≡◌, take}
use Rattle.kp_kept.specs.Ahead.{all_records}
use Rattle.kp_kept.proofs.batches.join_all.Given as goal

abbrev pub invariant-loop-records : goal.invariant-loop-records
invariant-loop-records l = l.all ≡ all_records (take l.records-index l.waiting)
