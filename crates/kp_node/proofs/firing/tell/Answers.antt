use Rattle.std.proofs.Common.{◌∙◌, refl}
use Rattle.std.proofs.lemmas.List.{drop_more, drop_all}
use Rattle.kp_node.proofs.Fired.{tells_first, tells_more, all_told}
use Rattle.kp_node.proofs.firing.tell.Goals as goal

pub loop-one-init : goal.loop-one-init
loop-one-init c = (λ pairs h. tells_first c.args.events.now c.args.fired.now pairs c.args.seats.now.seats h, (refl, refl, refl))

pub loop-one-preserved : goal.loop-one-preserved
loop-one-preserved c = (
  λ pairs h. tells_more c.args.events.now _ _ pairs c.args.seats.now.seats c.loop-one.seats c.tell_fired.new.seats c.tell_fired.ensures.told _ (drop_more c.args.fired.now c.loop-one.one-index _ c.loop-one-test.true) (c.loop-one.invariant.0 pairs h),
  (c.tell_fired.ensures.beside.0 ∙ c.loop-one.invariant.1.0, c.tell_fired.ensures.beside.1 ∙ c.loop-one.invariant.1.1, c.tell_fired.ensures.beside.2 ∙ c.loop-one.invariant.1.2),
)

pub returns-clause-told : goal.returns-clause-told
returns-clause-told c = λ pairs h. all_told c.args.events.now _ pairs c.args.seats.now.seats c.loop-one.seats.seats (drop_all c.loop-one.one-index c.args.fired.now c.loop-one-test.false) (c.loop-one.invariant.0 pairs h)
