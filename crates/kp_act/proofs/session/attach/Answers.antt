use Rattle.std.proofs.Common.{ap, sym, subst, ◌∙◌}
use Rattle.std.specs.Option.{option_copied}
use Rattle.kp_model.specs.Touched.{touched_by}
use Rattle.kp_model.specs.declared.entry.Body.TheVariants as body
use Rattle.kp_act.specs.Plans.{IsPlan}
use Rattle.kp_act.proofs.Plans.{attached_dead}
use Rattle.kp_act.proofs.session.attach.Goals as goal

pub returns-in-None : goal.returns-in-None
returns-in-None g c = λ applied. subst (IsPlan (touched_by (g.V.View.state c.args.view.now) (body.Attach c.args.id c.args.passwd c.args.origin)) (g.V.View.state c.args.view.now) _) (sym c.answer.ensures) (attached_dead (touched_by (g.V.View.state c.args.view.now) (body.Attach c.args.id c.args.passwd c.args.origin)) (g.V.View.state c.args.view.now) applied c.args.id c.args.passwd c.args.origin (sym (ap option_copied c.in-None.is) ∙ c.session.ensures))
