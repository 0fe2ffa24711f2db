use Rattle.std.proofs.Common.{Option, sym, subst}
use Rattle.kp_wire.specs.declared.connect.ConnectRequest.{ConnectRequest}
use Rattle.kp_node.specs.FirstBytes.{Makes, reads_first}
use Rattle.kp_node.proofs.Greets.{if_ok}
use Rattle.kp_node.proofs.first_bytes.serve_first.Goals as goal

pub returns-in-Some-clause-ok : goal.returns-in-Some-clause-ok
returns-in-Some-clause-ok c = if_ok _ _ c.ask.result
    (λ o h text ws. subst (λ (q : Option ConnectRequest). Makes c.args.ground c.args.raft.now c.args.storage.now c.ask.new.raft c.ask.new.storage c.ask.new.conn o (reads_first c.args.ground c.args.number c.args.draw text c.args.storage.now ws c.args.conn.now q c.args.end)) (sym c.in-Some.is) (h ws)) c.ask.ensures.ok
