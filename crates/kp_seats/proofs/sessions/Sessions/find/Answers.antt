use Rattle.std.proofs.Common.{◌∙◌, ap}
use Rattle.kp_seats.proofs.Tied.{server_is}
use Rattle.kp_seats.proofs.sessions.Sessions.find.Goals as goal

pub returns : goal.returns
returns c = server_is c.self.inside.sessions.entries c.self.inside.conns.entries c.args.self.now.sessions (ap (λ s. s.sessions) c.self.view_is) c.self.invariant.0 c.args.session c.copied.result (c.copied.ensures ∙ c.get.ensures.value)
