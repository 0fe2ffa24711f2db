use Rattle.kp_worker.proofs.Thoughts.{turn_kept}
use Rattle.kp_worker.proofs.thinking.think_turn.Goals as goal

pub returns-in-Ok-clause-tells : goal.returns-in-Ok-clause-tells
returns-in-Ok-clause-tells g c = turn_kept (g.C.Clock.may c.args.clock.now) (λ v. v.items) c.args.seat.now c.think_open.new.seat c.keep.new.seat (g.L.Lines.sees c.args.lines.now) c.think_open.new.notes c.args.kinds.items c.keep.result c.in-Ok.ensures.tells c.keep.ensures.tells
