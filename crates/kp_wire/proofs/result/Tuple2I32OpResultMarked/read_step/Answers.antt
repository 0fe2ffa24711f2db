use Rattle.std.proofs.Common.{◌≡◌, subst, Ok}
use Rattle.std.proofs.lemmas.Result.{err_from_is_err_and}
use Rattle.kp_wire.specs.OpResults.{all_marks}
use Rattle.kp_wire.proofs.ResultSteps.{listed_ok, listed_fails}
use Rattle.kp_wire.proofs.result.Tuple2I32OpResultMarked.read_step.Goals as goal

pub returns-in_err-result-in-Listed : goal.returns-in_err-result-in-Listed
returns-in_err-result-in-Listed c =
    let p = err_from_is_err_and c.from_residual-in_err-result-in-Listed.result c.from_residual-in_err-result-in-Listed.ensures.1 in
    rw (p.1, p.2) (listed_fails c.args.reader.now c.read_mark.new.reader c.in-Listed.kind c.in_err-result-in-Listed.field-0.0 (subst (λ m. all_marks.read c.args.reader.now ≡ Ok (m, c.read_mark.new.reader)) c.in-Listed.is c.in_ok-mark.ensures) c.in_err-result-in-Listed.ensures)

pub returns-in_ok-result-in-Listed : goal.returns-in_ok-result-in-Listed
returns-in_ok-result-in-Listed c = rw c.numbered.ensures (listed_ok c.args.reader.now c.read_mark.new.reader c.read_result.new.reader c.in-Listed.kind c.in_ok-result-in-Listed.result (subst (λ m. all_marks.read c.args.reader.now ≡ Ok (m, c.read_mark.new.reader)) c.in-Listed.is c.in_ok-mark.ensures) c.in_ok-result-in-Listed.ensures)
