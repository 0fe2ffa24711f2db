use Rattle.std.proofs.Common.{◌≡◌, subst, Ok}
use Rattle.std.proofs.lemmas.Result.{err_from_is_err_and}
use Rattle.kp_wire.specs.OpResults.{all_marks}
use Rattle.kp_wire.proofs.MultiSteps.{listed_ok, listed_fails, failing_ok, failing_fails, last_ok, last_fails}
use Rattle.kp_wire.proofs.result.read_multi.Goals as goal

pub returns-in_err-fixed_int-in-Last : goal.returns-in_err-fixed_int-in-Last
returns-in_err-fixed_int-in-Last c =
    let p = err_from_is_err_and c.from_residual-in_err-fixed_int-in-Last.result c.from_residual-in_err-fixed_int-in-Last.ensures.1 in
    rw (p.1, p.2) (last_fails c.args.reader.now c.read_mark.new.reader c.in_err-fixed_int-in-Last.field-0.0 (subst (λ m. all_marks.read c.args.reader.now ≡ Ok (m, c.read_mark.new.reader)) c.in-Last.is c.in_ok-mark.ensures) c.in_err-fixed_int-in-Last.ensures)

pub returns-in_err-codes-in-Failing : goal.returns-in_err-codes-in-Failing
returns-in_err-codes-in-Failing c =
    let p = err_from_is_err_and c.from_residual-in_err-codes-in-Failing.result c.from_residual-in_err-codes-in-Failing.ensures.1 in
    rw (p.1, p.2) (failing_fails c.args.reader.now c.read_mark.new.reader c.in_err-codes-in-Failing.field-0.0 (subst (λ m. all_marks.read c.args.reader.now ≡ Ok (m, c.read_mark.new.reader)) c.in-Failing.is c.in_ok-mark.ensures) c.in_err-codes-in-Failing.ensures)

pub returns-in_err-results-in-Listed : goal.returns-in_err-results-in-Listed
returns-in_err-results-in-Listed c =
    let p = err_from_is_err_and c.from_residual-in_err-results-in-Listed.result c.from_residual-in_err-results-in-Listed.ensures.1 in
    rw (p.1, p.2) (listed_fails c.args.reader.now c.read_mark.new.reader c.in-Listed.kind c.in_err-results-in-Listed.field-0.0 (subst (λ m. all_marks.read c.args.reader.now ≡ Ok (m, c.read_mark.new.reader)) c.in-Listed.is c.in_ok-mark.ensures) c.in_err-results-in-Listed.ensures)

pub returns-in_ok-fixed_int-in-Last : goal.returns-in_ok-fixed_int-in-Last
returns-in_ok-fixed_int-in-Last c = rw c.new.ensures (last_ok c.args.reader.now c.read_mark.new.reader c.fixed_int.new.reader (subst (λ m. all_marks.read c.args.reader.now ≡ Ok (m, c.read_mark.new.reader)) c.in-Last.is c.in_ok-mark.ensures) c.in_ok-fixed_int-in-Last.ensures)

pub returns-in_ok-codes-in-Failing : goal.returns-in_ok-codes-in-Failing
returns-in_ok-codes-in-Failing c = failing_ok c.args.reader.now c.read_mark.new.reader c.read_failures.new.reader c.in_ok-codes-in-Failing.codes (subst (λ m. all_marks.read c.args.reader.now ≡ Ok (m, c.read_mark.new.reader)) c.in-Failing.is c.in_ok-mark.ensures) c.in_ok-codes-in-Failing.ensures

pub returns-in_ok-results-in-Listed : goal.returns-in_ok-results-in-Listed
returns-in_ok-results-in-Listed c = listed_ok c.args.reader.now c.read_mark.new.reader c.read_results.new.reader c.in-Listed.kind c.in_ok-results-in-Listed.results (subst (λ m. all_marks.read c.args.reader.now ≡ Ok (m, c.read_mark.new.reader)) c.in-Listed.is c.in_ok-mark.ensures) c.in_ok-results-in-Listed.ensures
