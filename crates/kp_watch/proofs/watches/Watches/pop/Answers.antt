use Rattle.kp_watch.proofs.watches.Watches.pop.Goals as goal

pub invariant_of-self : goal.invariant_of-self
invariant_of-self c = (c.clear_last.ensures.indexed, c.clear_last.ensures.below c.self.inside.next c.self.invariant.1)
