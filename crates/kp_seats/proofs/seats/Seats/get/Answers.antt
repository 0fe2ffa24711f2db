use Rattle.std.proofs.Common.{ap, ◌∙◌}
use Rattle.kp_seats.proofs.Maps.{at_is}
use Rattle.kp_seats.proofs.seats.Seats.get.Goals as goal

pub returns : goal.returns
returns g c = c.get.ensures.value ∙ at_is c.self.inside.seats.entries c.self.inside.seats.entries c.args.self.now.seats (ap (λ t. t.seats) c.self.view_is) c.args.conn
