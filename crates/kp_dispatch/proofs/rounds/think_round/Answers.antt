use Rattle.kp_dispatch.proofs.Rounding.{round_behind}
use Rattle.kp_dispatch.proofs.rounds.think_round.Goals as goal

pub returns-in-Ok-clause-tells : goal.returns-in-Ok-clause-tells
returns-in-Ok-clause-tells g c = round_behind (g.C.Clock.may c.args.clock.now) (λ v. v.items) c.args.conn c.args.piece c.in-Ok.front c.think_behind.result c.args.seat.now c.think_front.new.seat c.think_behind.new.seat c.in-Ok.ensures.tells c.think_behind.ensures.tells
