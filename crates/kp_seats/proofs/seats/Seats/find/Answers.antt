use Rattle.std.proofs.Common.{ap}
use Rattle.kp_seats.proofs.Seated.{server_seated}
use Rattle.kp_seats.proofs.seats.Seats.find.Goals as goal

pub returns-clause-seated : goal.returns-clause-seated
returns-clause-seated g c = server_seated c.self.inside.next c.self.inside.seats.entries c.self.inside.order c.self.inside.sessions.sessions c.self.invariant c.args.session c.find.result c.find.ensures c.args.self.now.seats (ap (λ t. t.seats) c.self.view_is)
