use Rattle.std.proofs.Common.{◌∙◌, sym, ap}
use Rattle.kp_conn.specs.declared.waiting.Waiting.{Waiting}
use Rattle.kp_conn.specs.Connection.{joined}
use Rattle.kp_node.proofs.Joined.{as_plain, as_write, on_ok}
use Rattle.kp_node.proofs.joining.join_one.Goals as goal

pub returns-in-Ok-None-clause-ok : goal.returns-in-Ok-None-clause-ok
returns-in-Ok-None-clause-ok c = on_ok c.join.result
    (λ h. as_plain c.args.ground c.args.request c.args.storage.now c.args.bodies.now.items c.args.forwards.now.items c.args.conn.now c.join.new.self (sym c.in-Ok-None.ensures ∙ c.in-Ok-None.field-0-is) (h ∙ ap (λ (w : Waiting). joined w c.args.conn.now) c.unnumbered.ensures))
    c.join.ensures.ok

pub returns-in-Ok-Some-clause-ok : goal.returns-in-Ok-Some-clause-ok
returns-in-Ok-Some-clause-ok c = on_ok c.join_write.result
    (as_write c.args.ground c.args.request c.args.storage.now c.args.bodies.now.items c.args.forwards.now.items c.args.conn.now c.in-Ok-Some.cmd c.join_write.new.storage c.join_write.new.bodies.items c.join_write.new.forwards.items c.join_write.new.conn (sym c.in-Ok-Some.ensures ∙ c.in-Ok-Some.field-0-is))
    c.join_write.ensures.ok
