use Rattle.std.proofs.Common.{◌≡◌, length}
use Rattle.kp_log_tests.proofs.raft.images_of.Given as goal

abbrev pub invariant-loop : goal.invariant-loop
invariant-loop l = length l.images ≡ l.counter
