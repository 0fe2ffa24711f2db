use Rattle.std.proofs.Common.{refl}
use Rattle.std.proofs.lemmas.Result.{err_from_is_err_and}
use Rattle.kp_journal.proofs.Whole.{reading_told, not_full, stands_in}
use Rattle.kp_journal.proofs.journal.Journal.read_all.Goals as goal

pub returns-in_err-bytes-clause-read : goal.returns-in_err-bytes-clause-read
returns-in_err-bytes-clause-read g c =
    let p = err_from_is_err_and c.from_residual.result c.from_residual.ensures.1 in
    rw (p.1, p.2) (reading_told _ c.args.node c.in_err-bytes.field-0.0 (c.in_err-bytes.ensures.only c.in_err-bytes.field-0.0 refl))

pub returns-in_err-bytes-clause-no_full : goal.returns-in_err-bytes-clause-no_full
returns-in_err-bytes-clause-no_full g c =
    let p = err_from_is_err_and c.from_residual.result c.from_residual.ensures.1 in
    rw (p.1, p.2) (λ len is. not_full c.in_err-bytes.field-0.0 len (c.in_err-bytes.ensures.only c.in_err-bytes.field-0.0 refl) is)

pub returns-clause-stands : goal.returns-clause-stands
returns-clause-stands g c =
    stands_in c.journal_from-journal.result _ _ c.in_ok-bytes.bytes.items c.deref.result.now c.args.node c.journal_from-journal.ensures.read c.journal_from-journal.ensures.node c.deref.ensures.value c.in_ok-bytes.ensures.whole c.in_ok-bytes.ensures.keeps
