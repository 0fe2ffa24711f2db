use Rattle.kp_worker.proofs.Gathered.{adds_both}
use Rattle.kp_worker.proofs.gathering.add_due.Goals as goal

pub returns : goal.returns
returns g c = record {
  adds = λ o box. adds_both o o o box box box 0 0 c.args.kinds.now.items c.add_where-3.new.kinds.items c.add_where-4.new.kinds.items
      (adds_both o o o box box box 0 0 c.args.kinds.now.items c.add_where-2.new.kinds.items c.add_where-3.new.kinds.items
      (adds_both o o o box box box 0 0 c.args.kinds.now.items c.add_where.new.kinds.items c.add_where-2.new.kinds.items (c.add_where.ensures.adds o box) (c.add_where-2.ensures.adds o box)) (c.add_where-3.ensures.adds o box)) (c.add_where-4.ensures.adds o box);
}
