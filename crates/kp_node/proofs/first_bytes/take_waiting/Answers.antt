use Rattle.std.proofs.Common.{refl}
use Rattle.kp_node.proofs.Firsts.{waits_taken}
use Rattle.kp_node.proofs.first_bytes.take_waiting.Goals as goal

pub returns-clause-ok : goal.returns-clause-ok
returns-clause-ok c = waits_taken c.args.bytes.now c.args.conn.now c.feed.new.self c.in_ok-fed.fed c.in_ok-fed.fed.end c.none_handed.result c.requires c.in_ok-fed.ensures.ok refl c.none_handed.ensures
