use Rattle.std.proofs.Common.{sym, subst}
use Rattle.std.specs.Prelude.{IfOk}
use Rattle.kp_model.specs.Step.{act}
use Rattle.kp_act.specs.Effects.{DoesOn, path_of}
use Rattle.kp_act.proofs.acting.act.Goals as goal

pub returns-in-Create : goal.returns-in-Create
unfolding act
returns-in-Create g c = subst (λ x. IfOk c.create.result (DoesOn (path_of (g.L.Look.nodes c.args.look.now) x) (g.L.Look.nodes c.args.look.now) (λ s. act s c.args.session c.args.ids.now c.args.stamp.index c.args.stamp.time x))) (sym c.in-Create.is) c.create.ensures

pub returns-in-Delete : goal.returns-in-Delete
unfolding act
returns-in-Delete g c = subst (λ x. IfOk c.delete.result (DoesOn (path_of (g.L.Look.nodes c.args.look.now) x) (g.L.Look.nodes c.args.look.now) (λ s. act s c.args.session c.args.ids.now c.args.stamp.index c.args.stamp.time x))) (sym c.in-Delete.is) c.delete.ensures

pub returns-in-SetData : goal.returns-in-SetData
unfolding act
returns-in-SetData g c = subst (λ x. IfOk c.set_data.result (DoesOn (path_of (g.L.Look.nodes c.args.look.now) x) (g.L.Look.nodes c.args.look.now) (λ s. act s c.args.session c.args.ids.now c.args.stamp.index c.args.stamp.time x))) (sym c.in-SetData.is) c.set_data.ensures

pub returns-in-SetAcl : goal.returns-in-SetAcl
unfolding act
returns-in-SetAcl g c = subst (λ x. IfOk c.set_acl.result (DoesOn (path_of (g.L.Look.nodes c.args.look.now) x) (g.L.Look.nodes c.args.look.now) (λ s. act s c.args.session c.args.ids.now c.args.stamp.index c.args.stamp.time x))) (sym c.in-SetAcl.is) c.set_acl.ensures

pub returns-in-Check : goal.returns-in-Check
unfolding act
returns-in-Check g c = subst (λ x. DoesOn (path_of (g.L.Look.nodes c.args.look.now) x) (g.L.Look.nodes c.args.look.now) (λ s. act s c.args.session c.args.ids.now c.args.stamp.index c.args.stamp.time x) c.check.result) (sym c.in-Check.is) c.check.ensures

pub returns-in-Sync : goal.returns-in-Sync
unfolding act
returns-in-Sync g c = subst (λ x. IfOk c.sync.result (DoesOn (path_of (g.L.Look.nodes c.args.look.now) x) (g.L.Look.nodes c.args.look.now) (λ s. act s c.args.session c.args.ids.now c.args.stamp.index c.args.stamp.time x))) (sym c.in-Sync.is) (c.sync.ensures (g.L.Look.nodes c.args.look.now))
