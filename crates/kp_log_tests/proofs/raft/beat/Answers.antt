use Rattle.std.proofs.Common.{◌∙◌, arith}
use Rattle.kp_log_tests.proofs.raft.beat.Goals as goal

pub step-requires : goal.step-requires
step-requires c = record {
  from = c.commit-index.ensures.from;
  to = omega (arith, c.commit-index.ensures.index);
  count = c.in_ok-images.ensures ∙ c.lagging.ensures;
}
