-- Each exit is a lemma on luck.
use Rattle.std.proofs.Common.{arith, ◌≡◌, ◌<◌, length, true, ap, ◌∙◌}
use Rattle.kp_conn.specs.Connection.{closed}
use Rattle.kp_node.proofs.Refused.{begins, goes_on, ends_lost, ends, one_less}
use Rattle.kp_node.proofs.refusing.refuse.Goals as goal

pub loop-turn-init : goal.loop-turn-init
loop-turn-init c = (omega arith, begins c.args.zxid c.args.refusal.now c.args.conn.now)

pub loop-turn-preserved : goal.loop-turn-preserved
loop-turn-preserved c =
    let some : 0 < length c.loop-turn.conn.queue = omega (arith, c.loop-turn.invariant.0, c.loop-turn-test.true, c.waiting-turn-end.ensures) in (
      one_less c.args.zxid c.args.refusal.now c.loop-turn.conn c.answer.new.self c.loop-turn.turn (length c.args.conn.now.queue) c.loop-turn.invariant.0 (omega (arith, c.loop-turn-test.true, c.waiting-turn-end.ensures)) c.in-Ok.ensures.ok,
      goes_on c.args.zxid c.args.refusal.now c.args.conn.now c.loop-turn.conn c.answer.new.self c.loop-turn.invariant.1 some c.in-Ok.ensures.ok,
    )

pub returns-in-Err : goal.returns-in-Err
returns-in-Err c =
    let some : 0 < length c.loop-turn.conn.queue = omega (arith, c.loop-turn.invariant.0, c.loop-turn-test.true, c.waiting-turn-end.ensures) in
    ends_lost c.args.zxid c.args.refusal.now c.args.conn.now c.loop-turn.conn c.close.new.self c.loop-turn.invariant.1 some (c.close.ensures ∙ ap (closed true) c.in-Err.ensures.err)

pub returns : goal.returns
returns c =
    let none : length c.loop-turn.conn.queue ≡ 0 = omega (arith, c.loop-turn.invariant.0, c.loop-turn-test.false, c.waiting-turn-end.ensures) in
    ends c.args.zxid c.args.refusal.now c.args.conn.now c.loop-turn.conn c.close-2.new.self c.loop-turn.invariant.1 none c.close-2.ensures
