use Rattle.std.proofs.Common.{◌≡◌, ◌∙◌, ap, subst, ℕ, [], Ok}
use Rattle.std.proofs.lemmas.Result.{err_from_is_err_and}
use Rattle.kp_jute.specs.Form.{Fails}
use Rattle.kp_snapshot.specs.Rows.{rows_at}
use Rattle.kp_snapshot.specs.Knowing.{Sessions, knowing}
use Rattle.kp_snapshot.proofs.SessionRows.{session_at}
use Rattle.kp_snapshot.proofs.Steps.{rows_ok, rows_fails, rows_cut}
use Rattle.kp_snapshot.proofs.sessions.check_sessions.Goals as goal

pub returns-in_err-count : goal.returns-in_err-count
returns-in_err-count c =
    let p = err_from_is_err_and c.from_residual.result c.from_residual.ensures.1 in
    rw (p.1, p.2) (rows_cut (session_at c.args.next) c.in_err-count.field-0.0 c.args.reader.now c.in_err-count.ensures.read)

pub returns-in-Ok : goal.returns-in-Ok
returns-in-Ok c =
    let s = c.in-Ok.ensures in
    let next : c.new-known.result.next ≡ c.args.next = ap (λ (k : Sessions). k.next) c.new-known.ensures in (
      s.0,
      rows_ok (session_at c.args.next) c.args.reader.now c.unsigned_int.new.self c.check_each.new.reader c.in_ok-count.count s.0 c.in_ok-count.ensures.read (subst (λ (n : ℕ). rows_at (session_at n) c.in_ok-count.count [] c.unsigned_int.new.self ≡ Ok (s.0, c.check_each.new.reader)) next s.1),
      s.2 ∙ ap (λ (n : ℕ). knowing n s.0) next,
    )

pub returns-in-Err : goal.returns-in-Err
returns-in-Err c =
    let next : c.new-known.result.next ≡ c.args.next = ap (λ (k : Sessions). k.next) c.new-known.ensures in
    rows_fails (session_at c.args.next) c.in-Err.fail c.args.reader.now c.unsigned_int.new.self c.in_ok-count.count c.in_ok-count.ensures.read (subst (λ (n : ℕ). Fails c.in-Err.fail (rows_at (session_at n) c.in_ok-count.count [] c.unsigned_int.new.self)) next c.in-Err.ensures)
