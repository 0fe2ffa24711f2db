use Rattle.std.proofs.Common.{refl, rules}
use Rattle.kp_worker.proofs.Gathered.{adds_both, adds_less, adds_none}
use Rattle.kp_worker.proofs.gathering.accept_all.Goals as goal

pub loop-at-init : goal.loop-at-init
loop-at-init g c = record { adds = λ o box. adds_none o box c.args.kinds.now.items c.args.kinds.now.items refl; within = search rules }

pub loop-at-preserved : goal.loop-at-preserved
loop-at-preserved g c = record {
  adds = λ o box. adds_both o o o box box box c.loop-at.at 1 c.args.kinds.now.items c.loop-at.kinds.items c.accept_one.new.kinds.items (c.loop-at.invariant.adds o box) (c.accept_one.ensures.adds o box);
  within = search rules;
}

pub returns : goal.returns
returns g c = record { adds = λ o box. adds_less o o box box c.loop-at.at _ c.args.kinds.now.items c.loop-at.kinds.items c.loop-at.invariant.within (c.loop-at.invariant.adds o box) }
