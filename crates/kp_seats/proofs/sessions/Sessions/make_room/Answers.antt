use Rattle.std.proofs.Common.{ap, true}
use Rattle.kp_seats.proofs.Maps.{on_err, base_kept}
use Rattle.kp_seats.proofs.sessions.Sessions.make_room.Goals as goal

pub returns-in_err-make_room-clause-err : goal.returns-in_err-make_room-clause-err
returns-in_err-make_room-clause-err c = on_err c.from_residual.result (λ i. record { sessions = base_kept c.self.inside.sessions.entries c.make_room.new.map.entries c.args.self.now.sessions (ap (λ s. s.sessions) c.self.view_is) c.make_room.ensures.same i; has_room = (c.self.view_is i).has_room })

pub returns-in_err-make_room-2-clause-err : goal.returns-in_err-make_room-2-clause-err
returns-in_err-make_room-2-clause-err c = on_err c.from_residual-in_err-make_room-2.result (λ i. record { sessions = base_kept c.self.inside.sessions.entries c.make_room.new.map.entries c.args.self.now.sessions (ap (λ s. s.sessions) c.self.view_is) c.make_room.ensures.same i; has_room = (c.self.view_is i).has_room })

pub returns-clause-ok : goal.returns-clause-ok
returns-clause-ok c = λ i. record { sessions = base_kept c.self.inside.sessions.entries c.make_room.new.map.entries c.args.self.now.sessions (ap (λ s. s.sessions) c.self.view_is) c.make_room.ensures.same i; has_room = true }
