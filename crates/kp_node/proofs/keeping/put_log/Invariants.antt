use Rattle.std.proofs.Common.{◌≡◌, ◌≤◌, false}
use Rattle.kp_entry.specs.Records.{has_base}
use Rattle.kp_node.proofs.Kept.{IsAdded}
use Rattle.kp_node.proofs.keeping.put_log.Given as goal

abbrev pub invariant-loop-place : goal.invariant-loop-place
invariant-loop-place l = record {
  so_far : IsAdded l.raft.held.log l.fn.records l.place l.records;
  unended : has_base l.records ≡ false;
  above : l.raft.held.log.base ≤ l.place;
}
