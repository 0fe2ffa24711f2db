use Rattle.std.proofs.Common.{sym}
use Rattle.kp_act.specs.Several.{effected_nodes_by}
use Rattle.kp_draft.proofs.Drafted.{unseen, on_ok_both, draft_removed}
use Rattle.kp_draft.proofs.draft.remove_under.Goals as goal

pub returns-in-None-clause-effects : goal.returns-in-None-clause-effects
returns-in-None-clause-effects g c = unseen (effected_nodes_by (g.V.View.state c.args.view.now).nodes c.args.draft.now.effects) c.args.path.now c.args.up.now c.in_ok-above.above c.requires.parent c.requires.above c.in_ok-above.ensures c.in-None.is

pub returns-in-Some-clause-draft : goal.returns-in-Some-clause-draft
returns-in-Some-clause-draft g c = on_ok_both c.take_out.result c.take_out.ensures.effects c.take_out.ensures.kept (λ pushed keeps.
    draft_removed c.args.index c.args.owner (g.V.View.state c.args.view.now).nodes c.args.draft.now.effects c.take_out.new.draft.effects c.args.draft.now.kept.entries c.take_out.new.draft.kept.entries c.args.path.now c.args.up.now c.requires.parent c.requires.child c.requires.there c.requires.above c.in_ok-here.here c.in_ok-above.above c.in-Some.meta c.in_ok-here.ensures c.in_ok-above.ensures (sym c.in-Some.is) pushed keeps c.requires.draft)
