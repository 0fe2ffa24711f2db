use Rattle.std.proofs.Common.{sym, ◌∙◌}
use Rattle.kp_snapshot.proofs.trail.follow.Goals as goal

pub returns-clause-ups : goal.returns-clause-ups
returns-clause-ups c = λ test ups none yes. c.cut.ensures test c.args.last.now c.args.path.now ups none c.common-at.ensures.same (sym c.rises.ensures ∙ yes)
