use Rattle.std.proofs.Common.{subst}
use Rattle.kp_worker.specs.Turns.{AddsHarmless}
use Rattle.kp_worker.proofs.Gathered.{all_harmless, more_both}
use Rattle.kp_worker.proofs.planning.plan_behind.Goals as goal

pub returns : goal.returns
returns g c = let o = g.L.Lines.sees c.args.lines.now in let k0 = c.new-kinds.result.items in let k1 = c.add_beat.new.kinds.items in let k2 = c.drain_notes.new.kinds.items in let k3 = c.drain_all.new.kinds.items in
    all_harmless o k3 (subst (λ l. AddsHarmless o l k3) c.new-kinds.ensures.items (more_both o k0 k2 k3 (more_both o k0 k1 k2 (c.add_beat.ensures.adds o) c.drain_notes.ensures.adds) c.drain_all.ensures.adds))
