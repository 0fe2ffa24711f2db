use Rattle.std.proofs.Common.{sym, subst, ◌∙◌}
use Rattle.kp_model.specs.Touched.{touched_by}
use Rattle.kp_model.specs.declared.entry.Body.TheVariants as body
use Rattle.kp_act.specs.Plans.{IsPlan}
use Rattle.kp_act.proofs.Acts.{if_ok_then}
use Rattle.kp_act.proofs.Plans.{attached_known, attached_unknown}
use Rattle.kp_act.proofs.session.attach_to.Goals as goal

pub returns-then-known : goal.returns-then-known
returns-then-known g c = λ applied. if_ok_then _ _ _ (c.join.ensures applied c.args.passwd) (λ p h. attached_known (touched_by (g.V.View.state c.args.view.now) (body.Attach c.args.id c.args.passwd c.args.origin)) (g.V.View.state c.args.view.now) applied c.args.id c.args.passwd c.args.origin c.args.session.now p (sym c.is_known-known.ensures ∙ c.if-known.true) h)

pub returns-else-known : goal.returns-else-known
returns-else-known g c = λ applied. subst (IsPlan (touched_by (g.V.View.state c.args.view.now) (body.Attach c.args.id c.args.passwd c.args.origin)) (g.V.View.state c.args.view.now) _) (sym c.answer.ensures) (attached_unknown (touched_by (g.V.View.state c.args.view.now) (body.Attach c.args.id c.args.passwd c.args.origin)) (g.V.View.state c.args.view.now) applied c.args.id c.args.passwd c.args.origin c.args.session.now (sym c.is_known-known.ensures ∙ c.if-known.false))
