use Rattle.std.proofs.Common.{arith, ◌∙◌, ◌-◌, ap}
use Rattle.kp_node.proofs.Walked.{few_lost, turned}
use Rattle.kp_node.proofs.walking.change_each.Goals as goal

pub overflow_cast-lost : goal.overflow_cast-lost
overflow_cast-lost g c =
    let few = few_lost (g.C.Change.changes c.args.change.now) c.requires.loosens c.args.seats.now c.args.watches.now c.args.before.unready.items c.args.before.lost c.requires.before c.requires.kept c.requires.served c.change_all.new.seats c.change_all.ensures c.follow.new.seats c.follow.new.watches c.follow.ensures.seats c.follow.ensures.watches in
    omega (arith, few, c.count_lost.ensures, c.saturating_sub-lost.ensures)

pub returns : goal.returns
returns g c = turned (g.C.Change.changes c.args.change.now) c.requires.loosens c.args.seats.now c.args.watches.now c.args.before.unready.items c.args.before.lost c.requires.before c.requires.kept c.requires.served c.change_all.new.seats c.change_all.ensures c.follow.new.seats c.follow.new.watches c.follow.ensures.seats c.follow.ensures.watches _ _ _ c.from_vec.ensures c.ready_of-ready.ensures (c.saturating_sub-lost.ensures ∙ ap (λ k. k - c.args.before.lost) c.count_lost.ensures)
