use Rattle.std.proofs.Common.{ap, ◌∙◌}
use Rattle.kp_seats.proofs.Maps.{at_is}
use Rattle.kp_seats.proofs.sessions.Sessions.session.Goals as goal

pub returns : goal.returns
returns c = c.copied.ensures ∙ c.get.ensures.value ∙ at_is c.self.inside.sessions.entries c.self.inside.sessions.entries c.args.self.now.sessions (ap (λ s. s.sessions) c.self.view_is) c.args.conn
