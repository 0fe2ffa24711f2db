use Rattle.std.proofs.Common.{◌∙◌, arith, length, length-drop, ap}
use Rattle.kp_dispatch.proofs.Written.{tail_whole}
use Rattle.kp_dispatch.proofs.Written.{wrote_more}
use Rattle.kp_dispatch.proofs.output.write_all.Goals as goal

pub loop-at-preserved : goal.loop-at-preserved
loop-at-preserved g c = let e = tail_whole c.args.bytes.now c.loop-at.at in record {
  inside = omega (arith, c.in_ok-at.ensures.bound, ap length e, length-drop c.loop-at.at c.args.bytes.now, c.loop-at.invariant.inside);
  wrote = wrote_more (g.W.Sink.held c.args.output.now) (g.W.Sink.held c.loop-at.output) (g.W.Sink.held c.write.new.self) c.args.bytes.now c.loop-at.at c.in_ok-at.field-0 c.loop-at.invariant.wrote (rw e at c.in_ok-at.ensures.bytes);
  quiet = c.in_ok-at.ensures.cause ∙ c.loop-at.invariant.quiet;
}
