use Rattle.std.proofs.Common.{ap, sym, refl, ◌+◌, ◌∙◌}
use Rattle.std.specs.FinMap as map
use Rattle.kp_seats.specs.Seating.{accepted}
use Rattle.kp_seats.specs.Index.{base_of}
use Rattle.kp_seats.proofs.Maps.{on_err, get-base_of, base_put, base_kept}
use Rattle.kp_seats.proofs.Seated.{fresh, idle}
use Rattle.kp_seats.proofs.seats.Seats.accept.Goals as goal

pub returns-then-conn-clause-fresh : goal.returns-then-conn-clause-fresh
returns-then-conn-clause-fresh g c = ap (λ t. map.get t.seats t.next) (sym c.self.view_is) ∙ get-base_of c.self.inside.seats.entries c.self.inside.next ∙ fresh c.self.inside.next c.self.inside.seats.entries c.self.inside.order c.self.inside.sessions.sessions c.self.invariant

pub returns-in_err-enter-clause-fresh : goal.returns-in_err-enter-clause-fresh
returns-in_err-enter-clause-fresh g c = ap (λ t. map.get t.seats t.next) (sym c.self.view_is) ∙ get-base_of c.self.inside.seats.entries c.self.inside.next ∙ fresh c.self.inside.next c.self.inside.seats.entries c.self.inside.order c.self.inside.sessions.sessions c.self.invariant

pub returns-in_err-enter-clause-err : goal.returns-in_err-enter-clause-err
returns-in_err-enter-clause-err g c = on_err c.from_residual.result ((λ i. record {
  next = c.self.inside.next;
  seats = base_kept c.self.inside.seats.entries c.enter.new.seats.entries (base_of c.self.inside.seats.entries) refl c.in_err-enter.ensures.seats_err i;
  sessions = c.self.inside.sessions.sessions;
  has_room = c.self.inside.sessions.has_room;
}) ∙ c.self.view_is)

pub returns-clause-fresh : goal.returns-clause-fresh
returns-clause-fresh g c = ap (λ t. map.get t.seats t.next) (sym c.self.view_is) ∙ get-base_of c.self.inside.seats.entries c.self.inside.next ∙ fresh c.self.inside.next c.self.inside.seats.entries c.self.inside.order c.self.inside.sessions.sessions c.self.invariant

pub returns-clause-ok : goal.returns-clause-ok
returns-clause-ok g c = (λ i. record {
  next = c.self.inside.next + 1;
  seats = base_put c.self.inside.seats.entries c.enter.new.seats.entries (base_of c.self.inside.seats.entries) refl c.self.inside.next c.args.seat c.in_ok-enter.ensures.seats i;
  sessions = c.self.inside.sessions.sessions;
  has_room = c.self.inside.sessions.has_room;
}) ∙ ap (λ t. accepted t c.args.seat) c.self.view_is

pub returns-then-conn-clause-idle : goal.returns-then-conn-clause-idle
returns-then-conn-clause-idle g c = ap (λ t. map.get t.sessions t.next) (sym c.self.view_is) ∙ idle c.self.inside.next c.self.inside.seats.entries c.self.inside.order c.self.inside.sessions.sessions c.self.invariant

pub returns-in_err-enter-clause-idle : goal.returns-in_err-enter-clause-idle
returns-in_err-enter-clause-idle g c = ap (λ t. map.get t.sessions t.next) (sym c.self.view_is) ∙ idle c.self.inside.next c.self.inside.seats.entries c.self.inside.order c.self.inside.sessions.sessions c.self.invariant

pub returns-clause-idle : goal.returns-clause-idle
returns-clause-idle g c = ap (λ t. map.get t.sessions t.next) (sym c.self.view_is) ∙ idle c.self.inside.next c.self.inside.seats.entries c.self.inside.order c.self.inside.sessions.sessions c.self.invariant
