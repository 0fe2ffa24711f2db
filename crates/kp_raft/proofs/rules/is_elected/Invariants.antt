use Rattle.std.proofs.Common.{◌≡◌, ◌≤◌, false, get_or}
use Rattle.kp_model.specs.Majority.{count}
use Rattle.kp_raft.proofs.rules.is_elected.Given as goal

abbrev pub invariant-loop-k : goal.invariant-loop-k
invariant-loop-k l = record {
  sum : l.sum ≡ count l.k (λ j. get_or l.votes j false);
  few : l.sum ≤ l.k;
}
