use Rattle.std.proofs.Common.{ap, sym, subst}
use Rattle.kp_seats.specs.Index.{AreSeated}
use Rattle.kp_seats.proofs.Seated.{seated_without}
use Rattle.kp_seats.proofs.seats.Seats.end.Goals as goal

pub invariant_of-self : goal.invariant_of-self
invariant_of-self g c = subst (AreSeated c.self.inside.next c.self.inside.seats.entries c.self.inside.order) (sym (ap (λ s. s.sessions) c.end.ensures.change)) (seated_without c.self.inside.next c.self.inside.seats.entries c.self.inside.order c.self.inside.sessions.sessions c.self.invariant c.args.session)
