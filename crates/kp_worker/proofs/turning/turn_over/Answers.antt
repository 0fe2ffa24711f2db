use Rattle.kp_worker.proofs.WholeTurns.{turn_ends}
use Rattle.kp_worker.proofs.turning.turn_over.Goals as goal

pub returns-clause-tells : goal.returns-clause-tells
returns-clause-tells g c = turn_ends (g.C.Clock.may c.args.clock.now) (g.L.Lines.sees c.args.lines.now) (g.L.Lines.sees c.gather-kinds.new.lines) (g.L.Lines.sees c.think_and_leave.new.lines) (g.I.Inbox.taken c.args.inbox.now) (g.I.Inbox.taken c.gather-kinds.new.inbox) c.args.seat.now c.think_and_leave.new.seat _ c.gather-kinds.result.items c.think_and_leave.result c.gather-kinds.ensures.gathers c.think_and_leave.ensures.tells
