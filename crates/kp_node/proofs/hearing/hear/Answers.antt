use Rattle.std.proofs.Common.{sym, ◌∙◌, ap, true}
use Rattle.kp_conn.specs.Connection.{closed, is_over}
use Rattle.kp_node.proofs.Heard.{hears_nothing, hears_it, is_lost_by_it}
use Rattle.kp_node.proofs.hearing.hear.Goals as goal

pub returns-then-is_over : goal.returns-then-is_over
returns-then-is_over c = hears_nothing c.args.number c.args.event.now c.args.watches.now c.args.conn.now (ap is_over (sym c.phase.ensures) ∙ sym c.is_over.ensures ∙ c.if-is_over.true)

pub returns-in-Ok : goal.returns-in-Ok
returns-in-Ok c = hears_it c.args.number c.args.event.now c.args.watches.now c.args.conn.now c.event.new.self (ap is_over (sym c.phase.ensures) ∙ sym c.is_over.ensures ∙ c.if-is_over.false) c.in-Ok.ensures.ok

pub returns-in-Err : goal.returns-in-Err
returns-in-Err c = is_lost_by_it c.args.number c.args.event.now c.args.watches.now c.args.conn.now c.give_up.new.watches c.give_up.new.conn (ap is_over (sym c.phase.ensures) ∙ sym c.is_over.ensures ∙ c.if-is_over.false)
    (c.give_up.ensures.conn ∙ ap (closed true) c.in-Err.ensures.err) c.give_up.ensures.watches
