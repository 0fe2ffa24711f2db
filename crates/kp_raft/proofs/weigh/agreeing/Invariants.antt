use Rattle.std.proofs.Common.{◌≡◌, ◌+◌, drop}
use Rattle.kp_entry.specs.Log.{behind}
use Rattle.kp_raft.specs.Appends.{agreeing}
use Rattle.kp_raft.proofs.weigh.agreeing.Given as goal

abbrev pub invariant-loop-k : goal.invariant-loop-k
invariant-loop-k l = agreeing (behind l.log l.at) (drop l.first l.entries) ≡ l.k + agreeing (behind l.log (l.at + l.k)) (drop (l.first + l.k) l.entries)
