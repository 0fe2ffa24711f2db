use Rattle.std.proofs.Common.{◌∙◌, sym, Err}
use Rattle.std.proofs.lemmas.Result.{err_from_is_err_and}
use Rattle.kp_jute.specs.declared.fault.JuteFail.TheVariants.{BadByte}
use Rattle.kp_snapshot.proofs.Placing.{nodes_ok, nodes_none, nodes_cut, nodes_fail}
use Rattle.kp_snapshot.proofs.check.check_nodes.Goals as goal

pub returns-in_err-count : goal.returns-in_err-count
returns-in_err-count c =
    let p = err_from_is_err_and c.from_residual.result c.from_residual.ensures.1 in
    rw (p.1, p.2) (nodes_cut c.args.index c.args.ids.now c.in_err-count.field-0.0 c.args.reader.now c.in_err-count.ensures.read)

pub returns-in_err-check_each : goal.returns-in_err-check_each
returns-in_err-check_each c =
    let p = err_from_is_err_and c.from_residual-in_err-check_each.result c.from_residual-in_err-check_each.ensures.1 in
    rw (p.1, p.2) (nodes_fail c.args.index c.args.ids.now c.in_err-check_each.field-0.0 c.args.reader.now c.unsigned_int.new.self c.in_ok-count.count c.in_ok-count.ensures.read c.in_err-check_each.ensures)

pub returns-then-count-eq0 : goal.returns-then-count-eq0
returns-then-count-eq0 c = nodes_none c.args.index c.args.ids.now c.args.reader.now c.unsigned_int.new.self c.in_ok-count.count c.in_ok-count.ensures.read c.if-count-eq0.true ∙ (λ i. Err (BadByte (sym c.place-at.ensures i)))

pub returns : goal.returns
returns c =
    let s = c.in_ok-check_each.ensures in
    (s.0, nodes_ok c.args.index c.args.ids.now c.args.reader.now c.unsigned_int.new.self c.check_each.new.reader c.in_ok-count.count s.0 c.in_ok-count.ensures.read s.1 s.2 c.if-count-eq0.false, tt)
