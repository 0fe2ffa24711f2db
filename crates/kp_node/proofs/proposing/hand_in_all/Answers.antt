use Rattle.std.proofs.Common.{rules}
use Rattle.std.specs.Vec.Iter.{into_iter_items}
use Rattle.kp_step.specs.Handing.{proposed_all}
use Rattle.kp_node.proofs.Handed.{comes_first, comes_on, short_all, comes_last, none_left, one_left}
use Rattle.kp_node.proofs.proposing.hand_in_all.Goals as goal

pub loop-body-init : goal.loop-body-init
loop-body-init c = record {
  left = search rules;
  comes = λ first d h. comes_first first c.args.term c.args.now _ _ _ _ d c.into_iter-body-iterator.ensures.into_iter_gives.0 h;
}

pub loop-body-preserved : goal.loop-body-preserved
loop-body-preserved c = record {
  left = one_left _ _ _ _ _ c.loop-body.invariant.left c.in-Some.ensures.steps.0 c.in-Some.ensures.steps.1;
  comes = λ first d h. comes_on first c.args.term c.args.now _ _ _ _ c.in-Some.body _ (into_iter_items c.next.new.self) _ c.in-Some.ensures.steps.0 c.in_ok-hand_in.ensures.ok (c.loop-body.invariant.comes first d h);
}

pub returns-in_err-hand_in-clause-err : goal.returns-in_err-hand_in-clause-err
returns-in_err-hand_in-clause-err c = short_all _ c.args.term c.args.now _ _ _ _ _ _ _ (λ d. proposed_all c.args.term c.args.now d c.args.bodies.items) c.in_err-hand_in.ensures.err.0 c.in_err-hand_in.ensures.err.1 c.loop-body.invariant.comes

pub returns-clause-ok : goal.returns-clause-ok
returns-clause-ok c = λ first d h. comes_last first c.args.term c.args.now _ _ _ _ (none_left _ _ c.loop-body.invariant.left c.in-None.ensures.steps.0) (c.loop-body.invariant.comes first d h)
