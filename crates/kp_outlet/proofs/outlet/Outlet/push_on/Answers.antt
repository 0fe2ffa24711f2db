use Rattle.std.proofs.Common.{◌≡◌, ◌+◌, [], sym, subst, ◌∙◌, take, drop, drop-drop, ap, rules}
use Rattle.std.specs.Prelude.{None}
use Rattle.std.specs.Io.KnownBytes as known
use Rattle.kp_outlet.specs.declared.outlet.Outlet.{Outlet}
use Rattle.kp_outlet.specs.Outlets.{HandsWhere}
use Rattle.kp_outlet.proofs.Handing.{push_first, tail_whole}
use Rattle.kp_outlet.proofs.outlet.Outlet.push_on.Goals as goal

pub returns-in-Ok-clause-hands : goal.returns-in-Ok-clause-hands
returns-in-Ok-clause-hands g c = let o = c.args.self.now in let n = c.in-Ok.count in let m : Outlet g.row.W.Denot = record { sink = c.offer.new.self; rest = o.rest; from = o.from + n; end = o.end } in
    let open_ : o.end ≡ None = search rules in
    let e = ap (λ l. take n l) (tail_whole c.deref.result.now o.from ∙ ap (λ r. drop o.from r) c.deref.ensures.value) in
    let gone = subst (λ l. known.Appends (g.W.ReadySink.held o.sink) (g.W.ReadySink.held c.offer.new.self) l) e c.in-Ok.ensures.bytes in
    subst (λ e. HandsWhere e g.W.ReadySink.held g.W.ReadySink.faults o c.settle.new.outlet []) (sym open_)
    (push_first g.W.ReadySink.held g.W.ReadySink.faults o m c.settle.new.outlet n open_ c.in-Ok.ensures.cause gone (sym (drop-drop n o.from o.rest.items)) c.settle.ensures.settles)
