use Rattle.std.proofs.Common.{ap, sym, is_some, ◌∙◌}
use Rattle.kp_seats.proofs.Maps.{at_is}
use Rattle.kp_seats.proofs.seats.Seats.session.Goals as goal

pub returns-clause-seated : goal.returns-clause-seated
returns-clause-seated g c = λ e. ap is_some (sym (at_is c.self.inside.seats.entries c.self.inside.seats.entries c.args.self.now.seats (ap (λ t. t.seats) c.self.view_is) c.args.conn)) ∙ c.self.invariant.seated c.args.conn (ap is_some (sym c.session.ensures) ∙ e)
