use Rattle.std.proofs.Common.{◌≡◌, ◌≤◌}
use Rattle.kp_model.specs.Majority.{count}
use Rattle.kp_raft.specs.Appends.{lags}
use Rattle.kp_raft.specs.Members.{running_of}
use Rattle.kp_raft.proofs.raft.Raft.lagging_peers.Given as goal

abbrev pub invariant-loop-k : goal.invariant-loop-k
invariant-loop-k g l = record {
  sum : l.sum ≡ count l.k (lags l.self.node l.self.held (running_of l.self));
  few : l.sum ≤ l.k;
}
