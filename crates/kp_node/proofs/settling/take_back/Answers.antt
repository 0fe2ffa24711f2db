use Rattle.kp_node.proofs.Putting.{back_none, back_more}
use Rattle.kp_node.proofs.settling.take_back.Goals as goal

pub loop-done-init : goal.loop-done-init
loop-done-init c = back_none c.args.conn.now

pub loop-done-preserved : goal.loop-done-preserved
loop-done-preserved c = back_more c.args.conn.now c.loop-done.conn c.unput.new.self c.loop-done.done c.loop-done.invariant c.unput.ensures
