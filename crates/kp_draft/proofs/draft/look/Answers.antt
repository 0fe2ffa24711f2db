use Rattle.std.proofs.Common.{ap, sym, ◌∙◌}
use Rattle.std.specs.Option.{option_copied}
use Rattle.kp_act.proofs.Acts.{if_ok_then}
use Rattle.kp_draft.proofs.Drafted.{kept_some, kept_none}
use Rattle.kp_draft.proofs.draft.look.Goals as goal

pub returns-in-Some : goal.returns-in-Some
returns-in-Some g c = kept_some (g.V.View.state c.args.view.now).nodes c.args.draft.now.effects c.args.draft.now.kept.entries c.args.path.now c.in-Some.known.now c.requires (sym (ap option_copied c.in-Some.is) ∙ c.get.ensures.value)

pub returns-in-None : goal.returns-in-None
returns-in-None g c = if_ok_then _ _ _ c.look_under.ensures (λ k h. kept_none (g.V.View.state c.args.view.now).nodes c.args.draft.now.effects c.args.draft.now.kept.entries c.args.path.now k c.requires (sym (ap option_copied c.in-None.is) ∙ c.get.ensures.value) h)
