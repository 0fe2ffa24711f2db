use Rattle.std.proofs.Common.{subst}
use Rattle.kp_model.specs.Step.{deleted}
use Rattle.kp_act.specs.Effects.{MayRemove, DoesOn}
use Rattle.kp_act.proofs.Acts.{if_ok_then, unless_none}
use Rattle.kp_act.proofs.acting.delete.Goals as goal

pub returns-in-Ok : goal.returns-in-Ok
returns-in-Ok g c =
    let may : MayRemove (g.L.Look.nodes c.args.look.now) c.args.ids.now c.args.path.now c.args.version c.in-Ok.found = subst (λ p. MayRemove (g.L.Look.nodes c.args.look.now) c.args.ids.now p c.args.version c.in-Ok.found) c.as_str.ensures c.in-Ok.ensures in
    if_ok_then (DoesOn c.args.path.now (g.L.Look.nodes c.args.look.now) (λ s. deleted s c.args.stamp.index c.args.path.now)) _ _ c.remove.ensures (λ a h s. unless_none c.args.path.now (record s { nodes = g.L.Look.nodes c.args.look.now }) _ (deleted (record s { nodes = g.L.Look.nodes c.args.look.now }) c.args.stamp.index c.args.path.now) a may.passes (h s))
