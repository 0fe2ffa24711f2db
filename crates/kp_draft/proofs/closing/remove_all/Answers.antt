use Rattle.std.proofs.Common.{ap, sym, ◌∙◌}
use Rattle.std.specs.Prelude.{is_some}
use Rattle.kp_draft.proofs.Removals.{leaf_next, removals_none, removals_next}
use Rattle.kp_draft.proofs.closing.remove_all.Goals as goal

pub loop-path-init : goal.loop-path-init
loop-path-init g c = record { effects = c.requires.none ∙ sym (removals_none c.args.index c.args.id (g.V.View.state c.args.view.now).nodes); draft = c.requires.draft }

pub remove-requires-clause-child : goal.remove-requires-clause-child
remove-requires-clause-child g c = (leaf_next c.args.index c.args.id (g.V.View.state c.args.view.now).nodes c.args.paths.now c.loop-path.path-index c.path-item.result c.as_str.result.now c.loop-path.draft.effects c.requires.leaves c.loop-path-test.true c.path-item.is c.as_str.ensures c.loop-path.invariant.effects).family.child

pub remove-requires-clause-there : goal.remove-requires-clause-there
remove-requires-clause-there g c = ap is_some (leaf_next c.args.index c.args.id (g.V.View.state c.args.view.now).nodes c.args.paths.now c.loop-path.path-index c.path-item.result c.as_str.result.now c.loop-path.draft.effects c.requires.leaves c.loop-path-test.true c.path-item.is c.as_str.ensures c.loop-path.invariant.effects).there

pub remove-requires-clause-above : goal.remove-requires-clause-above
remove-requires-clause-above g c = ap is_some (leaf_next c.args.index c.args.id (g.V.View.state c.args.view.now).nodes c.args.paths.now c.loop-path.path-index c.path-item.result c.as_str.result.now c.loop-path.draft.effects c.requires.leaves c.loop-path-test.true c.path-item.is c.as_str.ensures c.loop-path.invariant.effects).above

pub loop-path-preserved : goal.loop-path-preserved
loop-path-preserved g c = record {
  effects = removals_next c.args.index c.args.id (g.V.View.state c.args.view.now).nodes c.args.paths.now c.loop-path.path-index c.path-item.result c.as_str.result.now c.loop-path.draft.effects c.remove.new.draft.effects c.requires.leaves c.loop-path-test.true c.path-item.is c.as_str.ensures c.loop-path.invariant.effects c.in_ok-remove.ensures.effects;
  draft = c.in_ok-remove.ensures.draft;
}
