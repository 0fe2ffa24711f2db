use Rattle.std.proofs.Common.{ap, sym, subst, refl, ◌∙◌}
use Rattle.std.specs.Option.{option_copied}
use Rattle.kp_model.specs.Touched.{touched_by}
use Rattle.kp_model.specs.declared.entry.Body.TheVariants as body
use Rattle.kp_act.specs.Plans.{IsPlan}
use Rattle.kp_act.proofs.Acts.{if_ok_then}
use Rattle.kp_prep.proofs.Entries.{expired_dead, expired_live}
use Rattle.kp_prep.proofs.entry.expire.Goals as goal

pub returns-in-None : goal.returns-in-None
returns-in-None g c = λ applied. subst (IsPlan (touched_by (g.V.View.state c.args.view.now) (body.Expire c.args.id)) (g.V.View.state c.args.view.now) _) (sym c.answer.ensures) (expired_dead (touched_by (g.V.View.state c.args.view.now) (body.Expire c.args.id)) (g.V.View.state c.args.view.now) applied c.args.index c.args.id (sym (ap option_copied c.in-None.is) ∙ c.session.ensures))

pub returns-in-Some : goal.returns-in-Some
returns-in-Some g c = λ applied. if_ok_then _ _ _ (c.close.ensures applied (g.V.View.state c.args.view.now).sessions refl) (λ p h. expired_live (touched_by (g.V.View.state c.args.view.now) (body.Expire c.args.id)) (g.V.View.state c.args.view.now) applied c.args.index c.args.id c.in-Some.field-0.now p (sym (ap option_copied c.in-Some.is) ∙ c.session.ensures) h)
