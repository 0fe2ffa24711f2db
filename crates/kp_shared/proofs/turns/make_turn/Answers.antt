use Rattle.std.proofs.Common.{rules}
use Rattle.kp_shared.proofs.TurnCalls.{turn_ends}
use Rattle.kp_shared.proofs.turns.make_turn.Goals as goal

pub returns-in-Ok-clause-tells : goal.returns-in-Ok-clause-tells
returns-in-Ok-clause-tells g c = turn_ends (g.C.Clock.may c.args.clock.now) (λ v. v.items) c.new-batch.result.items c.args.seat.now c.think_plan.new.seat c.keep_batch.new.seat c.args.plan.items c.think_plan.new.batch c.keep_batch.result (search rules) c.in-Ok.ensures.tells c.keep_batch.ensures.tells
