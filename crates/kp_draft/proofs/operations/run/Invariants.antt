use Rattle.std.proofs.Math.ListN.{drop}
use Rattle.kp_model.specs.State.{State}
use Rattle.kp_draft.specs.Behind.{IsBehind}
use Rattle.kp_draft.specs.Multis.{IsRun}
use Rattle.kp_draft.proofs.operations.run.Given as goal

abbrev pub invariant-loop-op : goal.invariant-loop-op
invariant-loop-op g l = record {
  behind : IsBehind (g.V.View.state l.view).nodes l.progress.draft.effects l.progress.draft.kept.entries l.progress.lists.entries;
  runs : (s : State) → IsRun (record s { nodes = (g.V.View.state l.view).nodes }) l.id l.ids l.stamp.index l.stamp.time l.ops (drop l.op-index l.ops) l.progress.draft.effects l.progress.answers l.progress.events;
}
