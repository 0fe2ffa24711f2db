use Rattle.kp_worker.proofs.Thoughts.{open_ends}
use Rattle.kp_worker.proofs.thinking.think_open.Goals as goal

pub returns-in-Ok-clause-tells : goal.returns-in-Ok-clause-tells
returns-in-Ok-clause-tells g c = let o = g.L.Lines.sees c.args.lines.now in open_ends (g.C.Clock.may c.args.clock.now) c.args.seat.now c.think_front.new.seat c.think_behind.new.seat o c.think_front.new.notes.items c.think_behind.new.notes.items c.args.kinds.items c.think_behind.result (c.in-Ok.ensures.tells o) c.think_behind.ensures.tells
