use Rattle.kp_node.proofs.Took.{fed_live, takes_live}
use Rattle.kp_node.proofs.taking.take_live.Goals as goal

pub serve-handed-requires : goal.serve-handed-requires
serve-handed-requires c = record { live = fed_live c.args.conn.now c.args.bytes.now _ c.in_ok-fed.ensures.ok c.requires }

pub returns-clause-ok : goal.returns-clause-ok
returns-clause-ok c draw text = takes_live c.args.ground c.args.number draw text c.args.bytes.now c.args.raft.now c.serve-handed.new.raft c.args.storage.now c.serve-handed.new.storage c.args.watches.now c.serve-handed.new.watches c.args.conn.now c.serve-handed.new.conn c.serve-handed.result
    _ c.in_ok-fed.fed c.in_ok-fed.ensures.ok c.requires c.serve-handed.ensures
