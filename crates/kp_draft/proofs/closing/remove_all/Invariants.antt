use Rattle.std.proofs.Common.{◌≡◌, take}
use Rattle.kp_draft.specs.Drafts.{IsDraft, removals}
use Rattle.kp_draft.proofs.closing.remove_all.Given as goal

abbrev pub invariant-loop-path : goal.invariant-loop-path
invariant-loop-path g l = record {
  effects : l.draft.effects ≡ removals l.index l.id (g.V.View.state l.view).nodes (take l.path-index l.paths);
  draft : IsDraft (g.V.View.state l.view).nodes l.draft.effects l.draft.kept.entries;
}
