use Rattle.std.proofs.Common.{subst}
use Rattle.kp_act.specs.Effects.{IsOwnerFound}
use Rattle.kp_act.proofs.Acts.{if_ok, set_acl_does}
use Rattle.kp_act.proofs.acting.keep_list.Goals as goal

pub returns-in-Ok : goal.returns-in-Ok
returns-in-Ok g c = if_ok _ _ _ c.listed.ensures (λ s. set_acl_does (record s { nodes = g.L.Look.nodes c.args.look.now }) c.args.ids.now c.args.path.now c.args.acl c.args.version c.in-Ok.meta c.requires (subst (λ p. IsOwnerFound (g.L.Look.nodes c.args.look.now) c.args.ids.now p c.args.version c.in-Ok.meta) c.as_str.ensures c.in-Ok.ensures))
