use Rattle.kp_watch.proofs.watches.Watches.drop_conn.Goals as goal

pub invariant_of-self : goal.invariant_of-self
invariant_of-self c = (c.clear_conn.ensures.indexed, c.clear_conn.ensures.below c.self.inside.next c.self.invariant.1)
