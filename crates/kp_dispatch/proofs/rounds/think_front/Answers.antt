use Rattle.std.proofs.Common.{rules}
use Rattle.kp_dispatch.proofs.Rounding.{front_none, front_stops}
use Rattle.kp_dispatch.proofs.rounds.think_front.Goals as goal

pub returns-in_default-clause-tells : goal.returns-in_default-clause-tells
returns-in_default-clause-tells g c = front_none (g.C.Clock.may c.args.clock.now) c.args.conn c.args.piece c.args.seat.now

pub returns-in-Err-clause-tells : goal.returns-in-Err-clause-tells
returns-in-Err-clause-tells g c = front_stops (g.C.Clock.may c.args.clock.now) c.args.conn c.args.piece c.new-front.result.items c.think_plan.new.batch.items c.args.seat.now c.think_plan.new.seat _ c.in-Err.refusal (search rules) c.in-Err.ensures.tells
