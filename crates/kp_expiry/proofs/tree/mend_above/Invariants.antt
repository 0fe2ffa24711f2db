use Rattle.std.proofs.Common.{◌≡◌, ◌≤◌, length}
use Rattle.kp_expiry.specs.Nodes.{tags, AreRightAbove}
use Rattle.kp_expiry.proofs.tree.mend_above.Given as goal

abbrev pub invariant-loop-child : goal.invariant-loop-child
invariant-loop-child l = (l.child ≤ length l.slots) × (tags l.slots ≡ tags l.initial.slots) × AreRightAbove l.slots l.child

abbrev pub decreases-loop-child : goal.decreases-loop-child
decreases-loop-child l = l.child
