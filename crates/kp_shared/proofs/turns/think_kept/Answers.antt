use Rattle.kp_shared.proofs.TurnCalls.{one_kept, one_refused}
use Rattle.kp_shared.proofs.turns.think_kept.Goals as goal

pub returns-in-Ok-clause-tells : goal.returns-in-Ok-clause-tells
returns-in-Ok-clause-tells g c = one_kept (g.C.Clock.may c.args.clock.now) c.args.seat.now c.think.new.seat c.keep_one.new.seat c.args.kind c.in-Ok.thought c.keep_one.result c.in-Ok.ensures.tells c.keep_one.ensures.tells

pub returns-in-Err-clause-tells : goal.returns-in-Err-clause-tells
returns-in-Err-clause-tells g c = one_refused (g.C.Clock.may c.args.clock.now) c.args.seat.now c.think.new.seat c.args.kind c.in-Err.refusal c.in-Err.ensures.tells
