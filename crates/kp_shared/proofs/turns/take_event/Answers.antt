use Rattle.kp_shared.proofs.TurnCalls.{event_refused}
use Rattle.kp_shared.proofs.turns.take_event.Goals as goal

pub returns-in-Err-clause-tells : goal.returns-in-Err-clause-tells
returns-in-Err-clause-tells g c = event_refused (g.C.Clock.may c.args.clock.now) c.args.seat.now c.think_more.new.seat c.args.kind c.in-Err.refusal c.in-Err.ensures.tells
