use Rattle.std.proofs.Common.{sym, ◌∙◌, ap}
use Rattle.kp_conn.specs.Connection.{is_lost}
use Rattle.kp_node.proofs.Served.{finish_lost, finish_settled}
use Rattle.kp_node.proofs.serving.finish.Goals as goal

pub returns-then-is_lost : goal.returns-then-is_lost
returns-then-is_lost g c = finish_lost (g.V.View.state c.args.view.now) c.args.number c.args.end c.args.watches.now c.args.conn.now (ap is_lost (sym c.phase.ensures) ∙ sym c.is_lost.ensures ∙ c.if-is_lost.true) c.requires.emptied

pub returns : goal.returns
returns g c = finish_settled (g.V.View.state c.args.view.now) c.args.number c.args.end c.args.watches.now c.args.conn.now c.settle.new.watches c.settle.new.conn c.end_by.new.conn (ap is_lost (sym c.phase.ensures) ∙ sym c.is_lost.ensures ∙ c.if-is_lost.false) c.settle.ensures c.end_by.ensures
