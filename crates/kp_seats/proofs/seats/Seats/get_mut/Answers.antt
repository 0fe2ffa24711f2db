use Rattle.std.proofs.Common.{ap, refl, is_some, ◌∙◌}
use Rattle.kp_seats.specs.Seating.{holding}
use Rattle.kp_seats.specs.Index.{base_of, at}
use Rattle.kp_seats.proofs.Maps.{at_is, base_put}
use Rattle.kp_seats.proofs.Seated.{seated_same, same_written}
use Rattle.kp_seats.proofs.seats.Seats.get_mut.Goals as goal

pub invariant_of-self-lent : goal.invariant_of-self-lent
invariant_of-self-lent g c = λ r. (
  λ w. seated_same c.self.inside.next c.self.inside.seats.entries c.self.inside.order c.self.inside.sessions.sessions c.self.invariant (c.get_mut.follows.lender w).entries
      (λ q. ap (λ es. is_some (at es q)) (c.get_mut.follows.holds w).0 ∙ same_written c.args.conn w c.self.inside.seats.entries q),
  seated_same c.self.inside.next c.self.inside.seats.entries c.self.inside.order c.self.inside.sessions.sessions c.self.invariant c.get_mut.follows.lender-at-none.entries
      (λ q. ap (λ m. is_some (at m.entries q)) c.get_mut.follows.holds-at-none),
)

pub returns : goal.returns
returns g c = (
  (
    refl,
    λ w there. (λ i. record {
      next = c.self.inside.next;
      seats = base_put c.self.inside.seats.entries (c.get_mut.follows.lender w).entries (base_of c.self.inside.seats.entries) refl c.args.conn w ((c.get_mut.follows.holds w).3 (ap is_some (at_is c.self.inside.seats.entries c.self.inside.seats.entries c.args.self.now.seats (ap (λ t. t.seats) c.self.view_is) c.args.conn) ∙ there)).0 i;
      sessions = c.self.inside.sessions.sessions;
      has_room = c.self.inside.sessions.has_room;
    }) ∙ ap (λ t. holding t c.args.conn w) c.self.view_is,
    (λ i. record {
      next = c.self.inside.next;
      seats = base_of (c.get_mut.follows.holds-at-none i).entries;
      sessions = c.self.inside.sessions.sessions;
      has_room = c.self.inside.sessions.has_room;
    }) ∙ c.self.view_is,
  ),
  record { writes_back = tt; value = c.get_mut.ensures.value ∙ at_is c.self.inside.seats.entries c.self.inside.seats.entries c.args.self.now.seats (ap (λ t. t.seats) c.self.view_is) c.args.conn },
)
