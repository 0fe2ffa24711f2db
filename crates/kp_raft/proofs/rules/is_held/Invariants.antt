use Rattle.std.proofs.Common.{◌≡◌, ◌≤◌, get_or}
use Rattle.kp_model.specs.Majority.{count}
use Rattle.kp_raft.specs.Rules.{has_up_to}
use Rattle.kp_raft.proofs.rules.is_held.Given as goal

abbrev pub invariant-loop-k : goal.invariant-loop-k
invariant-loop-k l = record {
  sum : l.sum ≡ count l.k (has_up_to l.me (λ j. get_or l.matches j 0) l.index);
  few : l.sum ≤ l.k;
}
