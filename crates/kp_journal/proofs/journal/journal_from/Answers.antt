use Rattle.std.proofs.Common.{◌≡◌, ◌∙◌, true, Err, length, take, drop, ap, sym, subst, arith}
use Rattle.std.proofs.lemmas.Bool.Decides.{nat_tests}
use Rattle.std.proofs.lemmas.Result.{err_from_is_err_and}
use Rattle.kp_jute.specs.Form.{Fails}
use Rattle.kp_journal.specs.declared.fail.JournalFail.{JournalFail}
use Rattle.kp_journal.specs.declared.head.Head.{Head}
use Rattle.kp_journal.specs.Answers.{Tells, with_framed}
use Rattle.kp_journal.specs.Frames.{Run, frames}
use Rattle.kp_journal.specs.Journals.{Journaled, journal_of}
use Rattle.kp_journal.proofs.Whole.{head_told, journal_read, batches_told, node_is}
use Rattle.kp_journal.proofs.journal.journal_from.Goals as goal

pub returns-in_err-head-clause-read : goal.returns-in_err-head-clause-read
returns-in_err-head-clause-read c =
    let p = err_from_is_err_and c.from_residual.result c.from_residual.ensures.1 in
    let test = c.if-not-is_open.false in
    let said : c.is_open.result ≡ true = grind (arith, nat_tests) in
    rw (p.1, p.2) (head_told c.args.node c.args.bytes.now c.in_err-head.field-0.0 (sym c.is_open.ensures ∙ said) c.in_err-head.ensures)

pub returns-in-Ok-clause-read : goal.returns-in-Ok-clause-read
returns-in-Ok-clause-read c =
    let test = c.if-not-is_open.false in
    let said : c.is_open.result ≡ true = grind (arith, nat_tests) in
    journal_read c.args.node c.args.bytes.now c.in_ok-head.head c.read_batches.new.self c.in-Ok.gate (sym c.is_open.ensures ∙ said) c.in_ok-head.ensures
    (ap (λ (r : Run). with_framed r (frames (length c.args.bytes.now) 22 (drop 22 c.args.bytes.now))) (sym c.new-found.ensures) ∙ c.in-Ok.ensures.read)

pub returns-in-Ok-clause-node : goal.returns-in-Ok-clause-node
returns-in-Ok-clause-node c = ap (λ (h : Head). h.node) c.in_ok-head.ensures.1 ∙ node_is c.args.node (take 22 c.args.bytes.now) c.in_ok-head.ensures.0

pub returns-in-Err-clause-read : goal.returns-in-Err-clause-read
returns-in-Err-clause-read c =
    let test = c.if-not-is_open.false in
    let said : c.is_open.result ≡ true = grind (arith, nat_tests) in
    subst (λ (f : JournalFail). Tells {A = Journaled} (Err f) (journal_of c.args.node c.args.bytes.now)) (sym c.from.ensures)
    (batches_told c.args.node c.args.bytes.now c.in_ok-head.head c.in-Err.fail (sym c.is_open.ensures ∙ said) c.in_ok-head.ensures
    (subst (λ (r : Run). Fails c.in-Err.fail (with_framed r (frames (length c.args.bytes.now) 22 (drop 22 c.args.bytes.now)))) c.new-found.ensures c.in-Err.ensures.read))
