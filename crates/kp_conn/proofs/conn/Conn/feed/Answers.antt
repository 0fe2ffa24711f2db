use Rattle.kp_conn.specs.Connection.{Connection}
use Rattle.kp_conn.proofs.Pieces.{fed_connecting_if, fed_closing}
use Rattle.kp_conn.proofs.conn.Conn.feed.Goals as goal

pub returns-in-Connecting-clause-ok : goal.returns-in-Connecting-clause-ok
returns-in-Connecting-clause-ok c =
    let seen : Connection = record { phase = c.self.inside.phase; kept = c.self.inside.kept.items; place = c.self.inside.place; queue = c.self.inside.queue.items; outbox = c.self.inside.outbox.strings } in
    fed_connecting_if c.args.self.now seen c.keep.new.self c.args.piece.now c.in-Connecting.read_only c.keep.result c.self.view_is c.in-Connecting.is c.keep.ensures.kept c.keep.ensures.ok

pub returns-in-Closing-clause-ok : goal.returns-in-Closing-clause-ok
returns-in-Closing-clause-ok c =
    let seen : Connection = record { phase = c.self.inside.phase; kept = c.self.inside.kept.items; place = c.self.inside.place; queue = c.self.inside.queue.items; outbox = c.self.inside.outbox.strings } in
    fed_closing c.args.self.now seen c.args.piece.now c.read_end.result c.in-Closing.lost c.self.view_is c.in-Closing.is c.read_end.ensures
