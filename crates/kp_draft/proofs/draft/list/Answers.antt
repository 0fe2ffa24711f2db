use Rattle.std.proofs.Common.{length, ap, ◌∙◌}
use Rattle.kp_act.proofs.Acts.{kids_counted}
use Rattle.kp_draft.proofs.draft.list.Goals as goal

pub returns : goal.returns
returns g c = record { meta = c.requires; kids = c.len.ensures ∙ ap length c.in_ok-names.ensures ∙ kids_counted (g.V.View.state c.args.view.now).nodes c.args.path.now }
