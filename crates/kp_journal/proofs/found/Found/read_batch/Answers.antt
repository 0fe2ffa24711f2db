use Rattle.std.proofs.Common.{sym, ◌∙◌, ap, subst, Result}
use Rattle.std.proofs.lemmas.Result.{err_from_is_err_and}
use Rattle.kp_jute.specs.declared.fault.JuteFail.{JuteFail}
use Rattle.kp_jute.specs.Form.{Place, Fails}
use Rattle.kp_journal.specs.Frames.{Run, with_run, run_at}
use Rattle.kp_journal.proofs.Reading.{whole_batch}
use Rattle.kp_journal.proofs.found.Found.read_batch.Goals as goal

pub returns-in_err-read_run : goal.returns-in_err-read_run
returns-in_err-read_run c =
    let p = err_from_is_err_and c.from_residual.result c.from_residual.ensures.1 in
    let b = whole_batch c.args.bytes.now c.args.at c.in-Some.end c.in-Some.ensures in
    rw (p.1, p.2) (subst (λ (m : Result Run JuteFail). Fails c.in_err-read_run.field-0.0 (with_run c.args.self.now m)) (ap (λ (q : Place). run_at q.at q.rest) c.part-reader.ensures ∙ sym b.run_is) c.in_err-read_run.ensures)

pub returns : goal.returns
returns c =
    let b = whole_batch c.args.bytes.now c.args.at c.in-Some.end c.in-Some.ensures in
    (b.is, b.fits, ap (with_run c.args.self.now) (b.run_is ∙ ap (λ (q : Place). run_at q.at q.rest) (sym c.part-reader.ensures)) ∙ c.in_ok-read_run.ensures)
