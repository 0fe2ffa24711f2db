use Rattle.std.proofs.Common.{◌<◌, length, arith}
use Rattle.std.proofs.lemmas.Bool.Decides.{nat_tests}
use Rattle.std.proofs.lemmas.Result.{err_from_is_err_and}
use Rattle.kp_journal.proofs.Reading.{run_goes_on, run_fails, run_ends}
use Rattle.kp_journal.proofs.found.Found.read_run.Goals as goal

pub loop-alloc-preserved : goal.loop-alloc-preserved
loop-alloc-preserved c =
    let r = c.in_ok-read_one.ensures in
    run_goes_on c.loop-alloc.self c.read_one.new.self c.loop-alloc.reader.at c.loop-alloc.reader.rest r.0 c.read_one.new.reader _ c.loop-alloc.invariant r.1 r.2 r.3

pub returns-in_err-read_one : goal.returns-in_err-read_one
returns-in_err-read_one c =
    let p = err_from_is_err_and c.from_residual.result c.from_residual.ensures.1 in
    let tells = c.is_at_end.ensures in
    let test = c.loop-alloc-test.true in
    let some : 0 < length c.loop-alloc.reader.rest = grind (arith, nat_tests) in
    rw (p.1, p.2) (run_fails c.loop-alloc.self c.loop-alloc.reader.at c.loop-alloc.reader.rest c.in_err-read_one.field-0.0 _ c.loop-alloc.invariant some c.in_err-read_one.ensures)

pub returns : goal.returns
returns c =
    let tells = c.is_at_end.ensures in
    let test = c.loop-alloc-test.false in
    run_ends c.loop-alloc.self c.loop-alloc.reader.at c.loop-alloc.reader.rest _ c.loop-alloc.invariant (grind (arith, nat_tests))
