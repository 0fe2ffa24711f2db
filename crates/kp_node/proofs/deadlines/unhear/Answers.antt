use Rattle.std.proofs.Common.{◌∙◌}
use Rattle.std.specs.FinMap as map
use Rattle.kp_node.proofs.Forgotten.{heard_in, unheard_in, seen}
use Rattle.kp_node.proofs.deadlines.unhear.Goals as goal

pub returns-then-is_some : goal.returns-then-is_some
returns-then-is_some g c = λ m now was before.
    let h = heard_in now c.args.session (map.get (g.V.View.state c.args.view.now).sessions c.args.session) m c.args.expiry.now (seen c.session.result _ _ c.session.ensures c.is_some.ensures ∙ c.if-is_some.true) was in
    c.put_back.ensures m h.0 h.1 before

pub returns-else-is_some : goal.returns-else-is_some
returns-else-is_some g c = λ m now was before.
    unheard_in now c.args.session (map.get (g.V.View.state c.args.view.now).sessions c.args.session) m c.args.expiry.now (seen c.session.result _ _ c.session.ensures c.is_some.ensures ∙ c.if-is_some.false) was
