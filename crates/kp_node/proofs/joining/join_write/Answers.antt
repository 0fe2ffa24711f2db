use Rattle.std.proofs.Common.{◌∙◌, sym, subst, ap}
use Rattle.kp_model.specs.declared.entry.Body.{Body}
use Rattle.kp_conn.specs.declared.waiting.Waiting.{Waiting}
use Rattle.kp_conn.specs.Connection.{joined}
use Rattle.kp_node.specs.Joining.{IsHanded, write_number}
use Rattle.kp_node.proofs.Joined.{numbered_write, on_ok}
use Rattle.kp_node.proofs.joining.join_write.Goals as goal

pub returns-in-Ok-clause-ok : goal.returns-in-Ok-clause-ok
returns-in-Ok-clause-ok c = on_ok c.hand.result
    (λ h. numbered_write c.args.ground c.args.storage.now c.args.bodies.now.items c.args.forwards.now.items c.args.conn.now c.join-in-Some.new.self c.args.request c.args.cmd c.in-Some.place c.hand.new.storage c.hand.new.bodies.items c.hand.new.forwards.items
    ((λ i. write_number (sym c.is_led.ensures i) (sym c.phase.ensures i)) ∙ sym c.in-Some.ensures.number)
    (c.in-Ok.ensures.ok ∙ ap (λ (w : Waiting). joined w c.args.conn.now) c.numbered.ensures)
    (subst (λ (b : Body). IsHanded c.args.ground c.args.storage.now c.args.bodies.now.items c.args.forwards.now.items b c.hand.new.storage c.hand.new.bodies.items c.hand.new.forwards.items) c.write_at-body.ensures h))
    c.hand.ensures.ok
