use Rattle.std.proofs.Common.{refl}
use Rattle.kp_worker.proofs.Gathered.{adds_both, adds_none}
use Rattle.kp_worker.proofs.gathering.take_all.Goals as goal

pub loop-at-init : goal.loop-at-init
loop-at-init g c = record { adds = λ box. adds_none (g.L.Lines.sees c.args.lines.now) box c.args.kinds.now.items c.args.kinds.now.items refl }

pub loop-at-preserved : goal.loop-at-preserved
loop-at-preserved g c = record {
  adds = λ box. adds_both (g.L.Lines.sees c.args.lines.now) (g.L.Lines.sees c.loop-at.lines) (g.L.Lines.sees c.take_ready.new.lines) box box box 0 0 c.args.kinds.now.items c.loop-at.kinds.items c.take_ready.new.kinds.items (c.loop-at.invariant.adds box) (c.take_ready.ensures.adds box);
}
