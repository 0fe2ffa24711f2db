use Rattle.std.proofs.Common.{sym, subst, ◌∙◌}
use Rattle.kp_model.specs.Touched.{touched_by}
use Rattle.kp_model.specs.declared.entry.Body.TheVariants as body
use Rattle.kp_act.specs.Plans.{IsPlan}
use Rattle.kp_act.proofs.Acts.{if_ok}
use Rattle.kp_act.proofs.Plans.{joined_stale, joined_new, the_one}
use Rattle.kp_act.proofs.session.join.Goals as goal

pub returns-then-stale : goal.returns-then-stale
returns-then-stale g c = λ applied passwd. subst (IsPlan (touched_by (g.V.View.state c.args.view.now) (body.Attach c.args.id passwd c.args.origin)) (g.V.View.state c.args.view.now) _) (sym c.answer.ensures) (joined_stale (touched_by (g.V.View.state c.args.view.now) (body.Attach c.args.id passwd c.args.origin)) (g.V.View.state c.args.view.now) applied c.args.id c.args.origin c.args.session.now (sym c.is_stale-stale.ensures ∙ c.if-stale.true))

pub returns-else-stale : goal.returns-else-stale
returns-else-stale g c = λ applied passwd. if_ok _ _ _ c.taken.ensures (joined_new (touched_by (g.V.View.state c.args.view.now) (body.Attach c.args.id passwd c.args.origin)) (g.V.View.state c.args.view.now) applied c.args.id c.args.origin c.args.session.now (the_one c.args.id) (sym c.is_stale-stale.ensures ∙ c.if-stale.false))
