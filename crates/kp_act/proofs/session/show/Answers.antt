use Rattle.std.proofs.Common.{sym, ◌∙◌}
use Rattle.kp_model.specs.Step.{shown_id}
use Rattle.kp_act.proofs.Acts.{if_ok}
use Rattle.kp_act.proofs.Plans.{shown_none, shown_one}
use Rattle.kp_act.proofs.session.show.Goals as goal

pub returns-in-Ok-None : goal.returns-in-Ok-None
returns-in-Ok-None c = λ s i t. if_ok _ _ _ c.refuse.ensures (shown_none s i t c.args.id c.args.seq c.args.session.now c.args.scheme.now c.args.auth.now (sym c.in-Ok-None.field-0-is ∙ c.in-Ok-None.ensures ∙ (λ j. shown_id (c.as_str.ensures j) (c.as_slice.ensures j))))

pub returns-in-Ok-Some : goal.returns-in-Ok-Some
returns-in-Ok-Some c = λ s i t. if_ok _ _ _ c.accept.ensures (shown_one s i t c.args.id c.args.seq c.args.session.now c.args.scheme.now c.args.auth.now c.in-Ok-Some.shown (sym c.in-Ok-Some.field-0-is ∙ c.in-Ok-Some.ensures ∙ (λ j. shown_id (c.as_str.ensures j) (c.as_slice.ensures j))))
