use Rattle.std.proofs.Common.{ap, sym, ◌∙◌}
use Rattle.std.specs.Option.{option_copied}
use Rattle.kp_draft.proofs.Telling.{meta_kept, meta_unkept}
use Rattle.kp_draft.proofs.behind.meta_in.Goals as goal

pub returns-in-Some : goal.returns-in-Some
returns-in-Some g c = c.as_ref.ensures.value ∙ meta_kept (g.V.View.state c.args.view.now).nodes c.args.draft.now.effects c.args.draft.now.kept.entries c.args.path.now c.in-Some.known.now c.requires (sym (ap option_copied c.in-Some.is) ∙ c.get.ensures.value)

pub returns-in-None : goal.returns-in-None
returns-in-None g c = c.meta.ensures ∙ meta_unkept (g.V.View.state c.args.view.now).nodes c.args.draft.now.effects c.args.draft.now.kept.entries c.args.path.now c.requires (sym (ap option_copied c.in-None.is) ∙ c.get.ensures.value)
