use Rattle.std.proofs.Common.{◌≡◌, ◌<◌, ◌≤◌, ℕ, false, get_or}
use Rattle.kp_model.specs.Majority.{is_majority}
use Rattle.kp_raft.specs.Rules.{has_up_to}
use Rattle.kp_raft.proofs.rules.held_up_to.Given as goal

abbrev pub invariant-loop : goal.invariant-loop
invariant-loop l = record {
  within : l.index ≤ l.last;
  none : (i : ℕ) → l.index < i → i ≤ l.last → is_majority l.members (has_up_to l.me (λ k. get_or l.matches k 0) i) ≡ false;
}
