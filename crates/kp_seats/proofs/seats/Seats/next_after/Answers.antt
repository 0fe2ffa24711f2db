use Rattle.std.proofs.Common.{ap, subst, ◌<◌}
use Rattle.std.specs.Prelude.{IfSome}
use Rattle.kp_seats.proofs.Seated.{is_next, leads, all_are, none_at, next_below}
use Rattle.kp_seats.proofs.seats.Seats.next_after.Goals as goal

pub returns-clause-next : goal.returns-clause-next
returns-clause-next g c = is_next c.self.inside.next c.self.inside.seats.entries c.self.inside.order c.self.inside.sessions.sessions c.self.invariant c.args.self.now.seats (ap (λ t. t.seats) c.self.view_is) c.next_above.ensures.ordered c.args.conn c.next_above.result c.next_above.ensures.next

pub returns-clause-list : goal.returns-clause-list
returns-clause-list g c = leads c.self.inside.next c.self.inside.seats.entries c.self.inside.order c.self.inside.sessions.sessions c.self.invariant c.args.self.now.seats (ap (λ t. t.seats) c.self.view_is) c.next_above.ensures.ordered c.args.conn c.next_above.result c.next_above.ensures.next

pub returns-clause-all : goal.returns-clause-all
returns-clause-all g c = all_are c.self.inside.next c.self.inside.seats.entries c.self.inside.order c.self.inside.sessions.sessions c.self.invariant c.args.self.now.seats (ap (λ t. t.seats) c.self.view_is) c.next_above.ensures.ordered

pub returns-clause-none : goal.returns-clause-none
returns-clause-none g c = none_at c.self.inside.next c.self.inside.seats.entries c.self.inside.order c.self.inside.sessions.sessions c.self.invariant c.args.self.now.seats (ap (λ t. t.seats) c.self.view_is) c.next_above.ensures.ordered

pub returns-clause-below : goal.returns-clause-below
returns-clause-below g c = subst (λ n. IfSome c.next_above.result (λ k. k < n)) (ap (λ t. t.next) c.self.view_is) (next_below c.self.inside.next c.self.inside.seats.entries c.self.inside.order c.self.inside.sessions.sessions c.self.invariant c.args.self.now.seats (ap (λ t. t.seats) c.self.view_is) c.next_above.ensures.ordered c.args.conn c.next_above.result
    (is_next c.self.inside.next c.self.inside.seats.entries c.self.inside.order c.self.inside.sessions.sessions c.self.invariant c.args.self.now.seats (ap (λ t. t.seats) c.self.view_is) c.next_above.ensures.ordered c.args.conn c.next_above.result c.next_above.ensures.next))
