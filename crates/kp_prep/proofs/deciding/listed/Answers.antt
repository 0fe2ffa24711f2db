use Rattle.std.proofs.Common.{◌++◌, ap, ◌∙◌}
use Rattle.kp_prep.specs.Changing.{session_changes, next_changes}
use Rattle.kp_prep.proofs.Changes.{nodes_kept}
use Rattle.kp_prep.proofs.deciding.listed.Goals as goal

pub with_effects-requires-clause-none : goal.with_effects-requires-clause-none
with_effects-requires-clause-none g c = nodes_kept (g.V.View.state c.args.view.now) c.args.plan.session c.args.plan.next c.push_next.new.changes (c.in_ok-push_next.ensures ∙ ap (λ cs. cs ++ next_changes c.args.plan.next) (c.in_ok-push_session.ensures ∙ ap (λ cs. cs ++ session_changes c.args.plan.session) c.new-changes.ensures))
