use Rattle.std.proofs.Common.{Some, ap, sym, ◌∙◌}
use Rattle.kp_seats.proofs.Tied.{server_is, none_leaves, one_leaves}
use Rattle.kp_seats.proofs.sessions.Sessions.end.Goals as goal

pub returns-in_err-conn-clause-server : goal.returns-in_err-conn-clause-server
returns-in_err-conn-clause-server c = server_is c.self.inside.sessions.entries c.self.inside.conns.entries c.args.self.now.sessions (ap (λ s. s.sessions) c.self.view_is) c.self.invariant.0 c.args.session c.from_residual.result (c.from_residual.ensures ∙ c.in_err-conn.ensures.value)

pub returns-in_err-conn-clause-change : goal.returns-in_err-conn-clause-change
returns-in_err-conn-clause-change c = λ i. record { sessions = none_leaves c.self.inside.sessions.entries c.self.inside.conns.entries c.args.self.now.sessions (ap (λ s. s.sessions) c.self.view_is) c.self.invariant.0 c.args.session (sym c.in_err-conn.ensures.value) i; has_room = (c.self.view_is i).has_room }

pub returns-clause-server : goal.returns-clause-server
returns-clause-server c = server_is c.self.inside.sessions.entries c.self.inside.conns.entries c.args.self.now.sessions (ap (λ s. s.sessions) c.self.view_is) c.self.invariant.0 c.args.session (Some c.in_ok-conn.conn) c.in_ok-conn.ensures.value

pub returns-clause-change : goal.returns-clause-change
returns-clause-change c = λ i. record { sessions = one_leaves c.self.inside.sessions.entries c.self.inside.conns.entries c.args.self.now.sessions (ap (λ s. s.sessions) c.self.view_is) c.self.invariant.0 c.args.session c.in_ok-conn.conn c.in_ok-conn.ensures.value c.take-2.new.map.entries c.take-2.ensures.change i; has_room = (c.self.view_is i).has_room }
