use Rattle.std.proofs.Common.{subst}
use Rattle.kp_act.specs.Effects.{MayCreate}
use Rattle.kp_act.proofs.Acts.{if_ok, created_does}
use Rattle.kp_act.proofs.creation.place.Goals as goal

pub returns-in-Ok : goal.returns-in-Ok
returns-in-Ok g c = if_ok _ _ _ c.made.ensures (λ s. created_does (record s { nodes = g.L.Look.nodes c.args.look.now }) c.args.ids.now c.args.stamp.index c.args.stamp.time c.args.path.now c.args.bytes.now c.args.acl c.args.owner c.args.stat c.in-Ok.up c.requires.fits c.requires.places (subst (λ p. MayCreate (g.L.Look.nodes c.args.look.now) c.args.ids.now p c.in-Ok.up) c.as_str.ensures c.in-Ok.ensures))
