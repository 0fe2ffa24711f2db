use Rattle.std.proofs.Common.{arith}
use Rattle.kp_snapshot.proofs.Prefixes.{right_ends}
use Rattle.kp_snapshot.proofs.trail.common.Goals as goal

pub returns-else-at-b : goal.returns-else-at-b
returns-else-at-b c = record { same = omega (arith, c.loop-at.invariant, right_ends c.args.a.now c.args.b.now c.loop-at.at (omega (arith, c.if-at-b.false))) }
