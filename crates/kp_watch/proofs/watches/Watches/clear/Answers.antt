use Rattle.kp_watch.proofs.watches.Watches.clear.Goals as goal

pub invariant_of-self : goal.invariant_of-self
invariant_of-self c = (c.clear_spot.ensures.indexed, c.clear_spot.ensures.below c.self.inside.next c.self.invariant.1)
