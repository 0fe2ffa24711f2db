use Rattle.std.proofs.Common.{sym, subst}
use Rattle.kp_model.specs.State.{State}
use Rattle.kp_model.specs.Step.{act_on}
use Rattle.kp_model.specs.Touched.{path_of_op}
use Rattle.kp_draft.specs.Behind.{Tells}
use Rattle.kp_act.specs.Effects.{DoesOn}
use Rattle.kp_act.specs.Looks.{HavePlaces}
use Rattle.kp_draft.proofs.Telling.{act_tells, fit_on, if_ok_both}
use Rattle.kp_draft.proofs.operations.step.Goals as goal

pub act_on-requires-clause-places : goal.act_on-requires-clause-places
act_on-requires-clause-places g c = subst HavePlaces (sym c.look_behind.ensures) c.requires.places

pub take-requires-clause-tells : goal.take-requires-clause-tells
take-requires-clause-tells g c =
    let s : State = g.V.View.state c.args.view.now in
    subst (λ n. Tells n c.in_ok-act.act.effect) c.look_behind.ensures (act_tells (path_of_op c.look_behind.result c.args.op.now) (record s { nodes = c.look_behind.result }) _ c.in_ok-act.act (c.in_ok-act.ensures s))

pub take-requires-clause-fit : goal.take-requires-clause-fit
take-requires-clause-fit g c = fit_on (path_of_op c.look_behind.result c.args.op.now) c.in_ok-act.act.effect (c.in_ok-act.ensures (g.V.View.state c.args.view.now)).on

pub returns-clause-does : goal.returns-clause-does
returns-clause-does g c = if_ok_both _ _ _ c.take.result c.take.ensures.error c.take.ensures.adds (λ o error adds. record {
  act = c.in_ok-act.act;
  acts = subst (λ n. DoesOn (path_of_op n c.args.op.now) n (λ s. act_on s c.args.id c.args.ids.now c.args.stamp.index c.args.stamp.time c.args.op.now) c.in_ok-act.act) c.look_behind.ensures c.in_ok-act.ensures;
  error = error;
  adds = adds;
})
