use Rattle.std.proofs.Common.{◌≤◌, length, drop, ◌∙◌, ap, arith}
use Rattle.std.proofs.lemmas.Bool.Decides.{nat_tests}
use Rattle.std.proofs.lemmas.Result.{err_from_is_err_and}
use Rattle.kp_homes.proofs.Replaying.{ends, drop_none, refused_on}
use Rattle.kp_homes.proofs.replay.Replay.take_all.Goals as goal

pub loop-index-preserved : goal.loop-index-preserved
loop-index-preserved c = record { so_far = c.loop-index.invariant.so_far ∙ c.in_ok-take_at.ensures }

pub returns-in_err-take_at : goal.returns-in_err-take_at
returns-in_err-take_at c =
    let p = err_from_is_err_and c.from_residual.result c.from_residual.ensures.1 in
    rw (p.1, p.2) (refused_on c.in_err-take_at.field-0.0 _ _ c.loop-index.invariant.so_far c.in_err-take_at.ensures)

pub returns : goal.returns
returns c =
    let test = c.loop-index-test.false in
    let count = c.len-count.ensures ∙ ap length c.records.ensures in
    let past : length c.args.journal.now.run.records ≤ c.loop-index.index = grind (arith, nat_tests) in
    c.loop-index.invariant.so_far ∙ ends c.args.slot c.loop-index.self (drop c.loop-index.index c.args.journal.now.run.records) (drop c.loop-index.index c.args.journal.now.run.places) (drop_none c.loop-index.index c.args.journal.now.run.records past)
