use Rattle.kp_snapshot.specs.Images.{lines}
use Rattle.std.proofs.lemmas.Result.{err_from_is_err_and}
use Rattle.kp_jute.specs.Jute.{items_at}
use Rattle.kp_jute.proofs.Loops.{items_go_on, items_fail, items_end}
use Rattle.kp_snapshot.proofs.lines.each_line.Goals as goal

pub returns-in_err-line : goal.returns-in_err-line
returns-in_err-line c =
    let p = err_from_is_err_and c.from_residual.result c.from_residual.ensures.1 in
    rw (p.1, p.2) (items_fail lines.read c.in_err-line.field-0.0 c.loop.lines.items c.args.count c.loop.counter c.loop.reader (items_at lines.read c.args.count c.args.reader.now) c.loop-test.true c.in_err-line.ensures c.loop.invariant)

pub loop-preserved : goal.loop-preserved
loop-preserved c =
    rw c.in_ok-push.ensures.items (items_go_on lines.read c.loop.lines.items c.args.count c.loop.counter c.loop.reader c.in_ok-line.line c.read_line.new.reader (items_at lines.read c.args.count c.args.reader.now) c.loop-test.true c.in_ok-line.ensures c.loop.invariant)

pub returns : goal.returns
returns c = items_end lines.read c.loop.lines.items c.args.count c.loop.counter c.loop.reader (items_at lines.read c.args.count c.args.reader.now) c.loop-test.false c.loop.invariant
