use Rattle.std.proofs.Common.{refl, inl}
use Rattle.kp_shared.specs.declared.plan.Step.TheVariants as step
use Rattle.kp_shared.specs.Plans.{Takes}
use Rattle.kp_shared.proofs.TurnCalls.{left_out, maybe_beat}
use Rattle.kp_shared.proofs.turns.maybe_beat.Goals as goal

pub returns-then-wants_beat-clause-tells : goal.returns-then-wants_beat-clause-tells
returns-then-wants_beat-clause-tells g c = maybe_beat (g.C.Clock.may c.args.clock.now) c.args.batch.now.items c.take_event.new.batch.items c.args.seat.now c.take_event.new.seat c.take_event.result c.take_event.ensures.tells

pub returns-clause-tells : goal.returns-clause-tells
returns-clause-tells g c = left_out (g.C.Clock.may c.args.clock.now) c.args.batch.now.items c.args.seat.now (λ ds. Takes step.MaybeBeat ds) (inl refl)
