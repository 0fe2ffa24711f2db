use Rattle.std.proofs.Common.{refl, sym, ◌∙◌}
use Rattle.kp_model.specs.State.{State}
use Rattle.kp_draft.proofs.Multis.{runs_none, run_places, runs_on, runs_stop, runs_all}
use Rattle.kp_draft.proofs.operations.run.Goals as goal

pub loop-op-init : goal.loop-op-init
loop-op-init g c = record {
  behind = c.requires.behind;
  runs = runs_none (g.V.View.state c.args.view.now).nodes c.args.id c.args.ids.now c.args.stamp.index c.args.stamp.time c.args.ops.now c.args.progress.now.draft.effects c.args.progress.now.answers c.args.progress.now.events c.requires.none c.requires.unanswered c.requires.silent;
}

pub step-requires-clause-places : goal.step-requires-clause-places
step-requires-clause-places g c =
    let s : State = g.V.View.state c.args.view.now in
    run_places s c.args.id c.args.ids.now c.args.stamp.index c.args.stamp.time c.args.ops.now _ c.loop-op.progress.draft.effects c.loop-op.progress.answers c.loop-op.progress.events (c.loop-op.invariant.runs s) c.requires.places

pub returns-then-is_some : goal.returns-then-is_some
returns-then-is_some g c = runs_stop (g.V.View.state c.args.view.now).nodes c.args.id c.args.ids.now c.args.stamp.index c.args.stamp.time c.args.ops.now c.loop-op.op-index c.op-item.result c.op-item.result c.loop-op.progress.draft.effects c.step.new.progress.draft.effects c.loop-op.progress.answers c.step.new.progress.answers c.loop-op.progress.events c.step.new.progress.events c.loop-op-test.true c.op-item.is refl c.loop-op.invariant.runs c.in_ok-end.end (sym c.is_some.ensures ∙ c.if-is_some.true) c.in_ok-end.ensures.does

pub loop-op-preserved : goal.loop-op-preserved
loop-op-preserved g c = record {
  behind = c.in_ok-end.ensures.behind;
  runs = runs_on (g.V.View.state c.args.view.now).nodes c.args.id c.args.ids.now c.args.stamp.index c.args.stamp.time c.args.ops.now c.loop-op.op-index c.op-item.result c.op-item.result c.loop-op.progress.draft.effects c.step.new.progress.draft.effects c.loop-op.progress.answers c.step.new.progress.answers c.loop-op.progress.events c.step.new.progress.events c.loop-op-test.true c.op-item.is refl c.loop-op.invariant.runs c.in_ok-end.end (sym c.is_some.ensures ∙ c.if-is_some.false) c.in_ok-end.ensures.does;
}

pub returns : goal.returns
returns g c = runs_all (g.V.View.state c.args.view.now).nodes c.args.id c.args.ids.now c.args.stamp.index c.args.stamp.time c.args.ops.now c.loop-op.op-index c.loop-op.progress.draft.effects c.loop-op.progress.answers c.loop-op.progress.events c.loop-op-test.false c.loop-op.invariant.runs
