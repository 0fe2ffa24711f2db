use Rattle.std.proofs.Common.{refl}
use Rattle.kp_worker.proofs.Gathered.{more_both, more_none}
use Rattle.kp_worker.proofs.planning.drain_notes.Goals as goal

pub loop-at-init : goal.loop-at-init
loop-at-init g c = record { adds = more_none (g.L.Lines.sees c.args.lines.now) c.args.kinds.now.items c.args.kinds.now.items refl }

pub loop-at-preserved : goal.loop-at-preserved
loop-at-preserved g c = record { adds = more_both (g.L.Lines.sees c.args.lines.now) c.args.kinds.now.items c.loop-at.kinds.items c.drain_named.new.kinds.items c.loop-at.invariant.adds c.drain_named.ensures.adds }
