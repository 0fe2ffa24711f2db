use Rattle.std.proofs.Common.{ap, subst, ◌∙◌}
use Rattle.kp_model.specs.State.{State}
use Rattle.kp_model.specs.Step.{with_seq}
use Rattle.kp_draft.specs.Multis.{IsEnd, multi_plan}
use Rattle.kp_act.proofs.Acts.{if_ok_then}
use Rattle.kp_draft.proofs.Multis.{multi_planned}
use Rattle.kp_draft.proofs.operations.multi.Goals as goal

pub run-ended-requires-clause-behind : goal.run-ended-requires-clause-behind
run-ended-requires-clause-behind g c = c.nothing-progress.ensures.behind (g.V.View.state c.args.view.now).nodes

pub returns-in-Ok : goal.returns-in-Ok
returns-in-Ok g c =
    let s : State = g.V.View.state c.args.view.now in
    λ epoch. if_ok_then _ _ _ c.planned.ensures (λ p is. multi_planned s c.args.stamp.index c.args.stamp.time c.args.id epoch c.args.seq c.args.session.now c.args.ops.now c.run-ended.new.progress.draft.effects c.run-ended.new.progress.answers c.run-ended.new.progress.events c.requires.live c.in-Ok.end p (subst (λ l. IsEnd s.nodes c.args.id c.args.session.now.ids c.args.stamp.index c.args.stamp.time l c.run-ended.new.progress.draft.effects c.run-ended.new.progress.answers c.run-ended.new.progress.events c.in-Ok.end) c.as_slice.ensures c.in-Ok.ensures) (is ∙ ap (λ n. multi_plan c.args.id (with_seq c.args.seq c.args.session.now) n c.in-Ok.end c.run-ended.new.progress.draft.effects c.run-ended.new.progress.answers c.run-ended.new.progress.events) c.len.ensures))
