use Rattle.std.proofs.Common.{◌<◌, ◌≤◌, ℕ, get_or}
use Rattle.kp_raft.proofs.rules.next_below.Given as goal

abbrev pub invariant-loop-k : goal.invariant-loop-k
invariant-loop-k l = record {
  within : l.best ≤ l.index;
  most : (j : ℕ) → 1 ≤ j → j ≤ l.k → get_or l.matches j 0 < l.index → get_or l.matches j 0 ≤ l.best;
}
