use Rattle.std.proofs.Common.{◌≡◌}
use Rattle.kp_raft.specs.Numbers.{for_peers}
use Rattle.kp_raft.specs.Rules.{vote_request}
use Rattle.kp_raft.proofs.raft.Raft.vote_requests.Given as goal

abbrev pub invariant-loop-k : goal.invariant-loop-k
invariant-loop-k g l = l.mails ≡ for_peers l.k l.node (vote_request l.node l.self.held)
