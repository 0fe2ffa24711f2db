use Rattle.std.proofs.Common.{ap, sym, subst, ◌∙◌}
use Rattle.kp_model.specs.Step.{new_session}
use Rattle.kp_model.specs.Touched.{touched_by}
use Rattle.kp_model.specs.declared.entry.Body.TheVariants as body
use Rattle.kp_act.specs.Plans.{IsPlan, opening_plan}
use Rattle.kp_act.proofs.Plans.{opened_late, opened_new}
use Rattle.kp_act.proofs.session.open.Goals as goal

pub returns-then-late : goal.returns-then-late
returns-then-late g c = λ applied. subst (IsPlan (touched_by (g.V.View.state c.args.view.now) (body.OpenSession c.args.timeout c.args.passwd c.args.origin)) (g.V.View.state c.args.view.now) _) (sym c.answer.ensures) (opened_late (touched_by (g.V.View.state c.args.view.now) (body.OpenSession c.args.timeout c.args.passwd c.args.origin)) (g.V.View.state c.args.view.now) applied c.args.timeout c.args.passwd c.args.origin (sym c.is_late-late.ensures ∙ c.if-late.true))

pub returns-else-late : goal.returns-else-late
returns-else-late g c = λ applied. subst (IsPlan (touched_by (g.V.View.state c.args.view.now) (body.OpenSession c.args.timeout c.args.passwd c.args.origin)) (g.V.View.state c.args.view.now) _) (sym (c.opening.ensures ∙ ap (λ n. opening_plan n (new_session c.args.timeout c.args.passwd c.args.origin)) c.next_session.ensures)) (opened_new (g.V.View.state c.args.view.now) applied c.args.timeout c.args.passwd c.args.origin (sym c.is_late-late.ensures ∙ c.if-late.false))
