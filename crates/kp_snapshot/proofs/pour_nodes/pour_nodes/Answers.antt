use Rattle.kp_snapshot.proofs.Placing.{nodes_ok}
use Rattle.kp_snapshot.proofs.pour_nodes.pour_nodes.Goals as goal

pub returns-clause-set : goal.returns-clause-set
returns-clause-set g c =
    let s = c.in_ok-pour_each.ensures.set in
    (s.0, nodes_ok c.args.index c.args.ids.now c.args.reader.now c.unsigned_int.new.self c.pour_each.new.reader c.in_ok-count.count s.0 c.in_ok-count.ensures.read s.1 s.2.0 c.if-count-eq0.false, s.2.1)
