use Rattle.std.proofs.Common.{sym, subst}
use Rattle.std.specs.Prelude.{IfOk}
use Rattle.kp_model.specs.Step as step
use Rattle.kp_model.specs.Touched.{path_of_op}
use Rattle.kp_act.specs.Effects.{DoesOn}
use Rattle.kp_act.proofs.acting.act_on.Goals as goal

pub returns-in-Create : goal.returns-in-Create
returns-in-Create g c = subst (λ x. IfOk c.create.result (DoesOn (path_of_op (g.L.Look.nodes c.args.look.now) x) (g.L.Look.nodes c.args.look.now) (λ s. step.act_on s c.args.session c.args.ids.now c.args.stamp.index c.args.stamp.time x))) (sym c.in-Create.is) c.create.ensures

pub returns-in-Delete : goal.returns-in-Delete
returns-in-Delete g c = subst (λ x. IfOk c.delete.result (DoesOn (path_of_op (g.L.Look.nodes c.args.look.now) x) (g.L.Look.nodes c.args.look.now) (λ s. step.act_on s c.args.session c.args.ids.now c.args.stamp.index c.args.stamp.time x))) (sym c.in-Delete.is) c.delete.ensures

pub returns-in-SetData : goal.returns-in-SetData
returns-in-SetData g c = subst (λ x. IfOk c.set_data.result (DoesOn (path_of_op (g.L.Look.nodes c.args.look.now) x) (g.L.Look.nodes c.args.look.now) (λ s. step.act_on s c.args.session c.args.ids.now c.args.stamp.index c.args.stamp.time x))) (sym c.in-SetData.is) c.set_data.ensures

pub returns-in-Check : goal.returns-in-Check
returns-in-Check g c = subst (λ x. DoesOn (path_of_op (g.L.Look.nodes c.args.look.now) x) (g.L.Look.nodes c.args.look.now) (λ s. step.act_on s c.args.session c.args.ids.now c.args.stamp.index c.args.stamp.time x) c.check.result) (sym c.in-Check.is) c.check.ensures
