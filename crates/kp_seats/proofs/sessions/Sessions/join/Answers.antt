use Rattle.std.proofs.Common.{ap, false, refl, ◌∙◌}
use Rattle.std.specs.FinMap as map
use Rattle.kp_seats.proofs.Maps.{no}
use Rattle.kp_seats.proofs.Tied.{tied_more, base_more}
use Rattle.kp_seats.proofs.sessions.Sessions.join.Goals as goal

pub invariant_of-self : goal.invariant_of-self
invariant_of-self c = (
  tied_more c.args.self.now.sessions c.args.session c.args.conn c.self.inside.sessions.entries c.self.inside.conns.entries c.put_reserved.new.map.entries c.put_reserved-2.new.map.entries
      (ap (λ s. s.sessions) (c.self.view_is ∙ c.leave.ensures.change) ∙ ap (λ s. map.remove s.sessions c.args.conn) c.end-before.ensures.change)
      c.self.invariant.0 c.put_reserved.ensures c.put_reserved-2.ensures,
  λ h. no false refl h,
)

pub returns-clause-change : goal.returns-clause-change
returns-clause-change c = ap (λ m. record { sessions = m; has_room = false }) (
    base_more c.args.self.now.sessions c.args.session c.args.conn c.self.inside.sessions.entries c.self.inside.conns.entries c.put_reserved.new.map.entries c.put_reserved-2.new.map.entries
    (ap (λ s. s.sessions) (c.self.view_is ∙ c.leave.ensures.change) ∙ ap (λ s. map.remove s.sessions c.args.conn) c.end-before.ensures.change)
    c.self.invariant.0 c.put_reserved.ensures c.put_reserved-2.ensures)
