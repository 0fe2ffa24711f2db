use Rattle.std.proofs.Common.{ap, sym, subst, is_some, ◌∙◌}
use Rattle.kp_seats.specs.Index.{AreSeated}
use Rattle.kp_seats.proofs.Maps.{at_is}
use Rattle.kp_seats.proofs.Seated.{seated_joined}
use Rattle.kp_seats.proofs.seats.Seats.join.Goals as goal

pub invariant_of-self : goal.invariant_of-self
invariant_of-self g c = subst (AreSeated c.self.inside.next c.self.inside.seats.entries c.self.inside.order) (sym (ap (λ s. s.sessions) c.join.ensures.change))
    (seated_joined c.self.inside.next c.self.inside.seats.entries c.self.inside.order c.self.inside.sessions.sessions c.self.invariant c.args.conn c.args.session
    (ap is_some (at_is c.self.inside.seats.entries c.self.inside.seats.entries c.args.self.now.seats (ap (λ t. t.seats) c.self.view_is) c.args.conn) ∙ c.requires.there))
