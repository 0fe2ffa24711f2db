use Rattle.std.proofs.lemmas.List.{drop_more, drop_all}
use Rattle.kp_node.proofs.Changed.{walks_on, walk_ends}
use Rattle.kp_node.proofs.changing.sweep.Goals as goal

pub loop-conn-preserved : goal.loop-conn-preserved
loop-conn-preserved c = walks_on c.args.seats.now.seats _ _ _ c.loop-conn.watches c.args.watches.now c.sweep_one.new.watches (drop_more c.args.conns.now c.loop-conn.conn-index 0 c.loop-conn-test.true) c.sweep_one.ensures c.loop-conn.invariant

pub returns : goal.returns
returns c = walk_ends c.args.seats.now.seats _ c.loop-conn.watches c.args.watches.now (drop_all c.loop-conn.conn-index c.args.conns.now c.loop-conn-test.false) c.loop-conn.invariant
