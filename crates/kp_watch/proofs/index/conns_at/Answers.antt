use Rattle.std.proofs.Common.{◌∙◌, ap}
use Rattle.std.specs.List.{flat_map}
use Rattle.std.proofs.lemmas.Result.{IfOk-weaker}
use Rattle.kp_watch.specs.Numbered.{watch_at, conn_at}
use Rattle.kp_watch.proofs.Cleared.{conns_listed}
use Rattle.kp_watch.proofs.index.conns_at.Goals as goal

pub returns : goal.returns
returns c =
    IfOk-weaker c.conns_of.result _ _
    (λ conns is. is
    ∙ ap (flat_map (conn_at (watch_at c.args.book.now.entries))) c.deref.ensures.value
    ∙ conns_listed c.args.book.now.entries c.args.sides.now c.args.path.now c.args.kind c.requires.ordered c.requires.beside c.in_ok-numbers_at.ensures.apart c.in_ok-numbers_at.field-0.items c.in_order-numbers.result.items c.in_ok-numbers_at.ensures.numbers c.in_order-numbers.ensures)
    c.conns_of.ensures
