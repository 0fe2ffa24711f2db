use Rattle.std.proofs.Common.{ap, ◌∙◌}
use Rattle.kp_seats.proofs.Maps.{at_is, base_taken}
use Rattle.kp_seats.proofs.sessions.Sessions.leave.Goals as goal

pub returns-in_err-session-clause-session : goal.returns-in_err-session-clause-session
returns-in_err-session-clause-session c = c.from_residual.ensures ∙ c.in_err-session.ensures.value ∙ at_is c.self.inside.sessions.entries c.self.inside.sessions.entries c.args.self.now.sessions (ap (λ s. s.sessions) c.self.view_is) c.args.conn

pub returns-in_err-session-clause-change : goal.returns-in_err-session-clause-change
returns-in_err-session-clause-change c = λ i. record { sessions = base_taken c.self.inside.sessions.entries c.take.new.map.entries c.args.self.now.sessions (ap (λ s. s.sessions) c.self.view_is) c.args.conn c.take.ensures.change i; has_room = (c.self.view_is i).has_room }

pub returns-clause-session : goal.returns-clause-session
returns-clause-session c = c.in_ok-session.ensures.value ∙ at_is c.self.inside.sessions.entries c.self.inside.sessions.entries c.args.self.now.sessions (ap (λ s. s.sessions) c.self.view_is) c.args.conn

pub returns-clause-change : goal.returns-clause-change
returns-clause-change c = λ i. record { sessions = base_taken c.self.inside.sessions.entries c.take.new.map.entries c.args.self.now.sessions (ap (λ s. s.sessions) c.self.view_is) c.args.conn c.take.ensures.change i; has_room = (c.self.view_is i).has_room }
