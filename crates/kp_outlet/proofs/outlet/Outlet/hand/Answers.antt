use Rattle.std.proofs.Common.{◌≡◌, sym, subst, rules}
use Rattle.std.specs.Prelude.{None}
use Rattle.kp_outlet.specs.declared.outlet.Outlet.{Outlet}
use Rattle.kp_outlet.specs.Outlets.{HandsWhere, Keeps}
use Rattle.kp_outlet.proofs.Handing.{hand_first, none_left, tail_whole}
use Rattle.kp_outlet.proofs.outlet.Outlet.hand.Goals as goal

pub returns-in-Ok-clause-hands : goal.returns-in-Ok-clause-hands
returns-in-Ok-clause-hands g c = let o = c.args.self.now in let m : Outlet g.row.W.Denot = record { sink = c.offer.new.self; rest = o.rest; from = o.from; end = o.end } in
    let open_ : o.end ≡ None = search rules in
    let none = none_left o.rest.items o.from (search rules) in
    let rest = subst (λ l. Keeps m c.keep-in-Ok.new.outlet l) (tail_whole c.args.bytes.now c.in-Ok.count) c.keep-in-Ok.ensures.keeps in
    subst (λ e. HandsWhere e g.W.ReadySink.held g.W.ReadySink.faults o c.keep-in-Ok.new.outlet c.args.bytes.now) (sym open_)
    (hand_first g.W.ReadySink.held g.W.ReadySink.faults o m c.keep-in-Ok.new.outlet c.args.bytes.now c.in-Ok.count none none c.in-Ok.ensures.cause c.in-Ok.ensures.bytes rest)
