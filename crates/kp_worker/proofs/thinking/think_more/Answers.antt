use Rattle.kp_worker.proofs.Thoughts.{one_none}
use Rattle.kp_worker.proofs.thinking.think_more.Goals as goal

pub returns-then-is_err-clause-tells : goal.returns-then-is_err-clause-tells
returns-then-is_err-clause-tells g c = one_none (g.C.Clock.may c.args.clock.now) c.args.seat.now c.args.kind
