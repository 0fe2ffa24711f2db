use Rattle.std.proofs.Common.{refl}
use Rattle.std.proofs.lemmas.List.{drop_more, drop_all}
use Rattle.kp_node.proofs.Tidied.{tidies_on, tidy_ends}
use Rattle.kp_node.proofs.indexing.tidy.Goals as goal

pub loop-conn-preserved : goal.loop-conn-preserved
loop-conn-preserved c = tidies_on c.args.seats.now c.loop-conn.seats c.tidy_one.new.seats _ _ _ (drop_more c.args.conns.now c.loop-conn.conn-index 0 c.loop-conn-test.true) c.tidy_one.ensures c.loop-conn.invariant

pub returns-clause-served : goal.returns-clause-served
returns-clause-served c = tidy_ends c.args.seats.now c.loop-conn.seats _ (drop_all c.loop-conn.conn-index c.args.conns.now c.loop-conn-test.false) c.loop-conn.invariant
