use Rattle.std.proofs.Common.{ℕ, ◌≡◌, ◌-◌, ap, arith, [], ◌++◌, ◌∷◌}
use Rattle.std.proofs.lemmas.Result.{err_from_is_err_and}
use Rattle.kp_snapshot.specs.Rows.{rows_at}
use Rattle.kp_snapshot.proofs.RowLoops.{rows_end}
use Rattle.kp_snapshot.proofs.SessionRows.{session_at, knowing_on, sessions_go_on, sessions_fail}
use Rattle.kp_snapshot.proofs.sessions.check_each.Goals as goal

pub loop-init : goal.loop-init
loop-init c = ([], c.requires, ap (λ (n : ℕ). rows_at (session_at c.args.known.now.next) n [] c.args.reader.now) (let e : c.args.count - 0 ≡ c.args.count = omega arith in e))

pub returns-in_err-check_session : goal.returns-in_err-check_session
returns-in_err-check_session c =
    let p = err_from_is_err_and c.from_residual.result c.from_residual.ensures.1 in
    rw (p.1, p.2) (sessions_fail c.args.known.now.next c.in_err-check_session.field-0.0 c.loop.invariant.0 c.loop.known c.args.count c.loop.counter c.loop.reader (rows_at (session_at c.args.known.now.next) c.args.count [] c.args.reader.now) c.loop.invariant.1 c.loop-test.true c.in_err-check_session.ensures c.loop.invariant.2)

pub loop-preserved : goal.loop-preserved
loop-preserved c =
    let s = c.in_ok-check_session.ensures in (
      c.loop.invariant.0 ++ s.0 ∷ [],
      knowing_on c.args.known.now.next c.loop.invariant.0 s.0 c.loop.known c.check_session.new.known c.loop.invariant.1 s.2,
      sessions_go_on c.args.known.now.next c.loop.invariant.0 c.loop.known c.args.count c.loop.counter c.loop.reader s.0 c.check_session.new.reader (rows_at (session_at c.args.known.now.next) c.args.count [] c.args.reader.now) c.loop.invariant.1 c.loop-test.true s.1 c.loop.invariant.2,
    )

pub returns : goal.returns
returns c = (c.loop.invariant.0, rows_end (session_at c.args.known.now.next) c.loop.invariant.0 c.args.count c.loop.counter c.loop.reader (rows_at (session_at c.args.known.now.next) c.args.count [] c.args.reader.now) c.loop-test.false c.loop.invariant.2, c.loop.invariant.1)
