use Rattle.kp_draft.proofs.closing.removals.Goals as goal

pub remove_all-removed-requires-clause-draft : goal.remove_all-removed-requires-clause-draft
remove_all-removed-requires-clause-draft g c = c.blank-draft.ensures.draft (g.V.View.state c.args.view.now).nodes
