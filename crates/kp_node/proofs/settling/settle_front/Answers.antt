-- Each way out is a lemma over the connection, what waits at its front and what was decided.
use Rattle.std.proofs.Common.{◌≡◌, sym, ◌∙◌, ap, refl, subst, length, suc, drop, arith}
use Rattle.kp_watch.specs.Watching.{dropped}
use Rattle.kp_step.specs.Settling.{session_in}
use Rattle.kp_node.specs.Deciding.{Answered}
use Rattle.kp_node.proofs.Turning.{front, no_front, none_waits, decided, undecided}
use Rattle.kp_node.proofs.settling.settle_front.Goals as goal

pub returns-in-None : goal.returns-in-None
returns-in-None g c = (refl, (refl, none_waits (g.V.View.state c.args.view.now) c.args.number c.args.watches.now c.args.conn.now (no_front c.args.conn.now.queue (sym c.in-None.ensures))))

pub returns-in-Err : goal.returns-in-Err
returns-in-Err g c = undecided (g.V.View.state c.args.view.now) c.args.number c.args.watches.now c.args.conn.now c.in-Some.front.now (front c.args.conn.now.queue c.in-Some.front.now (sym c.in-Some.ensures))
    c.session_of-session.result (c.session_of-session.ensures ∙ ap session_in c.phase.ensures) c.in-Err.ensures.some c.give_up.new.watches c.give_up.new.conn c.give_up.ensures.conn
    (c.give_up.ensures.watches ∙ ap (λ z. dropped z c.args.number) c.in-Err.ensures.err)

pub answer_front-turn-requires : goal.answer_front-turn-requires
answer_front-turn-requires g c =
    let e : length c.args.conn.now.queue ≡ suc (length (drop 1 c.args.conn.now.queue)) = ap length (front c.args.conn.now.queue c.in-Some.front.now (sym c.in-Some.ensures)) in
    omega (arith, e)

pub returns-in-Ok : goal.returns-in-Ok
returns-in-Ok g c = decided (g.V.View.state c.args.view.now) c.args.number c.args.watches.now c.args.conn.now c.in-Some.front.now (front c.args.conn.now.queue c.in-Some.front.now (sym c.in-Some.ensures))
    c.session_of-session.result (c.session_of-session.ensures ∙ ap session_in c.phase.ensures) c.decide.new.watches c.in-Ok.decision c.is_last-last.result (sym c.is_last-last.ensures) c.in-Ok.ensures.ok
    c.answer_front-turn.new.watches c.answer_front-turn.new.conn c.answer_front-turn.result
    (subst (λ z. Answered z c.args.number c.in-Ok.decision c.is_last-last.result c.decide.new.watches c.args.conn.now c.answer_front-turn.new.watches c.answer_front-turn.new.conn c.answer_front-turn.result) c.requires c.answer_front-turn.ensures)
