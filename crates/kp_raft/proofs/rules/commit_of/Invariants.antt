use Rattle.std.proofs.Common.{◌≡◌, ◌-◌, get_or}
use Rattle.kp_entry.specs.Log.{last_index}
use Rattle.kp_raft.specs.Numbers.{greatest}
use Rattle.kp_raft.specs.Rules.{may_commit}
use Rattle.kp_raft.proofs.rules.commit_of.Given as goal

abbrev pub invariant-loop-passed : goal.invariant-loop-passed
invariant-loop-passed l = greatest (last_index l.log) (may_commit l.members l.me l.term l.log (λ k. get_or l.matches k 0)) l.old ≡ greatest (l.held - l.passed) (may_commit l.members l.me l.term l.log (λ k. get_or l.matches k 0)) l.old
