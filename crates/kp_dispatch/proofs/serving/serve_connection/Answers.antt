use Rattle.kp_dispatch.proofs.ServedRounds.{served_whole}
use Rattle.kp_dispatch.proofs.serving.serve_connection.Goals as goal

pub returns-clause-serves : goal.returns-clause-serves
returns-clause-serves g c = served_whole (g.C.Clock.may c.args.clock.now) c.args.conn _ _ _ _ _ c.args.seat.now _ _ _ _ _ c.serve-end.new.seat c.think.new.seat c.serve-end.result c.think.result c.serve-end.ensures.serves c.think.ensures.asks
