use Rattle.std.proofs.lemmas.Result.{err_from_is_err_and}
use Rattle.kp_jute.specs.Jute.{items_at}
use Rattle.kp_jute.proofs.Loops.{items_go_on, items_fail, items_end}
use Rattle.kp_wire.proofs.list.read_items.Goals as goal

pub returns-in_err-item : goal.returns-in_err-item
returns-in_err-item g c =
    let p = err_from_is_err_and c.from_residual.result c.from_residual.ensures.1 in
    rw (p.1, p.2) (items_fail g.T.Element.form.read c.in_err-item.field-0.0 c.loop.items.items c.args.count c.loop.counter c.loop.reader (items_at g.T.Element.form.read c.args.count c.args.reader.now) c.loop-test.true c.in_err-item.ensures c.loop.invariant)

pub loop-preserved : goal.loop-preserved
loop-preserved g c =
    rw c.in_ok-push.ensures.items (items_go_on g.T.Element.form.read c.loop.items.items c.args.count c.loop.counter c.loop.reader c.in_ok-item.item c.read.new.reader (items_at g.T.Element.form.read c.args.count c.args.reader.now) c.loop-test.true c.in_ok-item.ensures c.loop.invariant)

pub returns : goal.returns
returns g c = items_end g.T.Element.form.read c.loop.items.items c.args.count c.loop.counter c.loop.reader (items_at g.T.Element.form.read c.args.count c.args.reader.now) c.loop-test.false c.loop.invariant
