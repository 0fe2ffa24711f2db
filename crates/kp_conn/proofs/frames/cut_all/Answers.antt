-- Each turn is a lemma over the bytes, the requests so far and how many bytes they are.
use Rattle.kp_conn.proofs.Cutting.{turned, over, stays, breaks, took}
use Rattle.kp_conn.proofs.frames.cut_all.Goals as goal

pub returns-in-Stays-clause-cut : goal.returns-in-Stays-clause-cut
returns-in-Stays-clause-cut c =
    stays c.args.bytes.now c.loop-turn.found.items c.loop-turn.used c.loop-turn.turn c.loop-turn.invariant.1 c.loop-turn-test.true c.take_frame.new.found.items
    (turned c.args.bytes.now c.loop-turn.used c.loop-turn.found.items c.take_frame.new.found.items _ _ c.in-Stays.is c.in_ok-take_frame.ensures)

pub returns-in-Breaks-clause-cut : goal.returns-in-Breaks-clause-cut
returns-in-Breaks-clause-cut c =
    breaks c.args.bytes.now c.loop-turn.found.items c.loop-turn.used c.loop-turn.turn c.loop-turn.invariant.1 c.loop-turn-test.true c.take_frame.new.found.items
    (turned c.args.bytes.now c.loop-turn.used c.loop-turn.found.items c.take_frame.new.found.items _ _ c.in-Breaks.is c.in_ok-take_frame.ensures)

pub loop-turn-preserved : goal.loop-turn-preserved
loop-turn-preserved c = took c.args.bytes.now c.loop-turn.found.items c.loop-turn.used c.loop-turn.turn c.loop-turn.invariant.1 c.loop-turn-test.true c.loop-turn.invariant.0 c.take_frame.new.found.items c.in-Took.n
    (turned c.args.bytes.now c.loop-turn.used c.loop-turn.found.items c.take_frame.new.found.items _ _ c.in-Took.is c.in_ok-take_frame.ensures)

pub returns-clause-cut : goal.returns-clause-cut
returns-clause-cut c =
    over c.args.bytes.now c.loop-turn.found.items c.loop-turn.used c.loop-turn.turn c.loop-turn.invariant.1 c.loop-turn-test.false
