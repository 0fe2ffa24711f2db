use Rattle.std.proofs.Common.{length, drop, ◌-◌, ◌≡◌, ◌+◌, ◌≤◌}
use Rattle.kp_snapshot.specs.Ups.{common}
use Rattle.kp_snapshot.proofs.trail.common.Given as goal

-- what is left begins alike as far as the whole does
abbrev pub invariant-loop-at : goal.invariant-loop-at
invariant-loop-at l = (l.at ≤ length l.a) × (l.at ≤ length l.b) × (l.at + common (drop l.at l.a) (drop l.at l.b) ≡ common l.a l.b)

abbrev pub decreases-loop-at : goal.decreases-loop-at
decreases-loop-at l = length l.a - l.at
