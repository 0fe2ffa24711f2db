use Rattle.std.proofs.Common.{ap, sym, ◌∙◌}
use Rattle.kp_conn.specs.Connection.{Connection}
use Rattle.kp_conn.specs.Fed.{first}
use Rattle.kp_conn.proofs.Pieces.{fed_fresh_if}
use Rattle.kp_conn.proofs.conn.Conn.feed_fresh.Goals as goal

pub returns-in-Ok-clause-ok : goal.returns-in-Ok-clause-ok
returns-in-Ok-clause-ok c =
    let seen : Connection = record { phase = c.self.inside.phase; kept = c.self.inside.kept.items; place = c.self.inside.place; queue = c.self.inside.queue.items; outbox = c.self.inside.outbox.strings } in
    fed_fresh_if c.args.self.now seen c.args.piece.now c.begin_with.new.kept.items c.in-Ok.first c.take_first.new.self c.take_first.result c.self.view_is (ap (λ (o : Connection). o.phase) c.self.view_is ∙ c.requires.phase) c.in-Ok.ensures.kept (c.in-Ok.ensures.first ∙ ap first (sym c.in-Ok.ensures.kept)) c.take_first.ensures.ok
