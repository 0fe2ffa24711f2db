use Rattle.kp_conn.specs.Connection.{Connection}
use Rattle.kp_conn.proofs.Pieces.{fed_live}
use Rattle.kp_conn.proofs.conn.Conn.feed_live.Goals as goal

pub returns-clause-ok : goal.returns-clause-ok
returns-clause-ok c =
    let seen : Connection = record { phase = c.self.inside.phase; kept = c.self.inside.kept.items; place = c.self.inside.place; queue = c.self.inside.queue.items; outbox = c.self.inside.outbox.strings } in
    fed_live c.args.self.now seen c.args.piece.now c.take_piece.new.kept.items c.in_ok-found.found.requests c.in_ok-found.found.used c.in_ok-found.found.bad c.read_requests.result c.self.view_is c.requires.phase (c.in_ok-found.ensures.cut c.self.inside.place) c.in_ok-found.ensures.rest c.read_requests.ensures
