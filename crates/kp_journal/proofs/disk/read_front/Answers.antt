use Rattle.std.proofs.Common.{◌∙◌, arith}
use Rattle.kp_journal.proofs.Whole.{filled_more}
use Rattle.kp_journal.proofs.disk.read_front.Goals as goal

pub loop-filled-preserved : goal.loop-filled-preserved
loop-filled-preserved g c = record {
  inside = omega (arith, c.in_ok-count.ensures.bound.0, c.read.auto.into, c.loop-filled.invariant.inside);
  same = omega (arith, c.read.auto.into, c.loop-filled.invariant.inside, c.loop-filled.invariant.same);
  bytes = filled_more _ _ c.loop-filled.into c.read.new.into _ c.loop-filled.filled c.in_ok-count.count c.in_ok-count.ensures.keeps c.loop-filled.invariant.bytes c.loop-filled.invariant.inside c.in_ok-count.ensures.bound.0 c.in_ok-count.ensures.bytes;
  held = c.in_ok-count.ensures.keeps ∙ c.loop-filled.invariant.held;
  past = c.in_ok-count.ensures.past ∙ c.loop-filled.invariant.past;
  quiet = c.in_ok-count.ensures.cause ∙ c.loop-filled.invariant.quiet;
  later = omega (arith, c.in_ok-count.ensures.moment, c.loop-filled.invariant.later);
}
