use Rattle.std.proofs.Common.{ap, sym, refl, subst, cond, false, ◌∙◌}
use Rattle.std.specs.BTreeSet.{contains}
use Rattle.std.specs.Ordering.{nat_cmp}
use Rattle.std.specs.Cmp.{unsigned_tied}
use Rattle.kp_seats.specs.Seating.{removed}
use Rattle.kp_seats.specs.Index.{base_of, AreSeated}
use Rattle.kp_seats.proofs.Maps.{at_is, base_taken}
use Rattle.kp_seats.proofs.Seated.{seated_removed}
use Rattle.kp_seats.proofs.seats.Seats.remove.Goals as goal

pub invariant_of-self : goal.invariant_of-self
invariant_of-self g c = subst (AreSeated c.self.inside.next c.take.new.map.entries c.remove.new.self) (sym (ap (λ s. s.sessions) c.leave.ensures.change))
    (seated_removed c.self.inside.next c.self.inside.seats.entries c.self.inside.order c.self.inside.sessions.sessions c.self.invariant c.args.conn c.take.new.map.entries c.remove.new.self c.take.ensures.change
    (λ q. c.remove.ensures.updates.0 q ∙ ap (λ b. cond b false (contains nat_cmp c.self.inside.order q)) (unsigned_tied c.args.conn q)))

pub returns-clause-seat : goal.returns-clause-seat
returns-clause-seat g c = c.take.ensures.value ∙ at_is c.self.inside.seats.entries c.self.inside.seats.entries c.args.self.now.seats (ap (λ t. t.seats) c.self.view_is) c.args.conn

pub returns-clause-change : goal.returns-clause-change
returns-clause-change g c = (λ i. record {
  next = c.self.inside.next;
  seats = base_taken c.self.inside.seats.entries c.take.new.map.entries (base_of c.self.inside.seats.entries) refl c.args.conn c.take.ensures.change i;
  sessions = (c.leave.ensures.change i).sessions;
  has_room = (c.leave.ensures.change i).has_room;
}) ∙ ap (λ t. removed t c.args.conn) c.self.view_is
