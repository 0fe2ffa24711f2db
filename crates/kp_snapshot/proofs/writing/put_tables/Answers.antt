use Rattle.std.specs.FinMap as map
use Rattle.kp_snapshot.proofs.PartWrites.{tables_written}
use Rattle.kp_snapshot.proofs.writing.put_tables.Goals as goal

pub returns : goal.returns
returns g c =
    let s = g.V.View.state c.args.view.now in
    tables_written c.args.index c.args.next (map.entries s.sessions) (map.entries s.nodes) c.in_ok-known.known c.ids.result.now c.put_nodes-put.result c.args.out.now.items c.put_sessions.new.out.items c.put_nodes-put.new.out.items c.in_ok-known.ensures.0 c.ids.ensures.ids c.in_ok-known.ensures.1 c.put_nodes-put.ensures
