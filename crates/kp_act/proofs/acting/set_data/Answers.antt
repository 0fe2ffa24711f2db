use Rattle.std.proofs.Common.{subst}
use Rattle.kp_act.specs.Effects.{IsFound}
use Rattle.kp_act.proofs.Acts.{if_ok, set_does}
use Rattle.kp_act.proofs.acting.set_data.Goals as goal

pub returns-in-Ok : goal.returns-in-Ok
returns-in-Ok g c = if_ok _ _ _ c.changed.ensures (λ s. set_does (record s { nodes = g.L.Look.nodes c.args.look.now }) c.args.ids.now 2 c.args.stamp.index c.args.stamp.time c.args.path.now c.args.bytes.now c.args.version c.in-Ok.meta c.requires.fits (subst (λ p. IsFound (g.L.Look.nodes c.args.look.now) c.args.ids.now 2 p c.args.version c.in-Ok.meta) c.as_str.ensures c.in-Ok.ensures))
