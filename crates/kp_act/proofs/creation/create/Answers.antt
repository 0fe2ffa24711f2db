use Rattle.std.proofs.Common.{subst}
use Rattle.std.specs.Prelude.{IfOk}
use Rattle.kp_model.specs.Step.{made}
use Rattle.kp_act.specs.Effects.{DoesOn}
use Rattle.kp_act.proofs.creation.create.Goals as goal

pub returns : goal.returns
returns g c = subst (λ p. IfOk c.create_at.result (DoesOn p (g.L.Look.nodes c.args.look.now) (λ s. made s c.args.session c.args.ids.now c.args.stamp.index c.args.stamp.time p c.args.bytes.now c.args.acl.now c.args.flags c.args.stat))) c.in_ok-whole.ensures c.create_at.ensures
