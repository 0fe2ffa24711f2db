use Rattle.std.proofs.Common.{◌≡◌, ◌∙◌, ap, subst, ℕ, [], Ok}
use Rattle.kp_snapshot.specs.Rows.{rows_at}
use Rattle.kp_snapshot.specs.Knowing.{Sessions, knowing}
use Rattle.kp_snapshot.proofs.SessionRows.{session_at}
use Rattle.kp_snapshot.proofs.Steps.{rows_ok}
use Rattle.kp_snapshot.proofs.pour_sessions.pour_sessions.Goals as goal

pub returns-in-Ok-clause-set : goal.returns-in-Ok-clause-set
returns-in-Ok-clause-set g c =
    let s = c.in-Ok.ensures.set in
    let next : c.new-known.result.next ≡ c.args.next = ap (λ (k : Sessions). k.next) c.new-known.ensures in (
      s.0,
      rows_ok (session_at c.args.next) c.args.reader.now c.unsigned_int.new.self c.pour_each.new.reader c.in_ok-count.count s.0 c.in_ok-count.ensures.read (subst (λ (n : ℕ). rows_at (session_at n) c.in_ok-count.count [] c.unsigned_int.new.self ≡ Ok (s.0, c.pour_each.new.reader)) next s.1),
      (s.2.0 ∙ ap (λ (n : ℕ). knowing n s.0) next, s.2.1),
    )
