use Rattle.std.proofs.Common.{ℕ, ◌≡◌, ◌-◌, ap, arith, refl, [], ◌++◌, ◌∷◌}
use Rattle.kp_snapshot.specs.Rows.{rows_at}
use Rattle.kp_snapshot.proofs.Filling.{sessions_more}
use Rattle.kp_snapshot.proofs.RowLoops.{rows_end}
use Rattle.kp_snapshot.proofs.SessionRows.{session_at, knowing_on, sessions_go_on}
use Rattle.kp_snapshot.proofs.pour_sessions.pour_each.Goals as goal

pub loop-init : goal.loop-init
loop-init g c = (c.requires.may, ([], c.requires.none, refl, ap (λ (n : ℕ). rows_at (session_at c.args.known.now.next) n [] c.args.reader.now) (let e : c.args.count - 0 ≡ c.args.count = omega arith in e)))

pub loop-preserved : goal.loop-preserved
loop-preserved g c =
    let s = c.in_ok-pour_session.ensures.set in
    let held = c.loop.invariant.1 in (
      c.in_ok-pour_session.ensures.may,
      (
        held.0 ++ s.0 ∷ [],
        knowing_on c.args.known.now.next held.0 s.0 c.loop.known c.pour_session.new.known held.1 s.2.0,
        sessions_more (g.F.Fill.state c.args.into.now) (g.F.Fill.state c.loop.into) (g.F.Fill.state c.pour_session.new.into) held.0 s.0 held.2 s.2.1,
        sessions_go_on c.args.known.now.next held.0 c.loop.known c.args.count c.loop.counter c.loop.reader s.0 c.pour_session.new.reader (rows_at (session_at c.args.known.now.next) c.args.count [] c.args.reader.now) held.1 c.loop-test.true s.1 held.3,
      ),
    )

pub returns-clause-set : goal.returns-clause-set
returns-clause-set g c =
    let held = c.loop.invariant.1 in
    (held.0, rows_end (session_at c.args.known.now.next) held.0 c.args.count c.loop.counter c.loop.reader (rows_at (session_at c.args.known.now.next) c.args.count [] c.args.reader.now) c.loop-test.false held.3, (held.1, held.2))
