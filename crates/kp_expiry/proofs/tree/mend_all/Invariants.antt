use Rattle.std.proofs.Common.{◌≡◌, ◌≤◌, ℕ, length}
use Rattle.kp_expiry.specs.Nodes.{tags, IsRight}
use Rattle.kp_expiry.proofs.tree.mend_all.Given as goal

abbrev pub invariant-loop-node : goal.invariant-loop-node
invariant-loop-node l = (l.node ≤ length l.slots) × (tags l.slots ≡ tags l.initial.slots) × ((j : ℕ) → l.node ≤ j → IsRight l.slots j)

abbrev pub decreases-loop-node : goal.decreases-loop-node
decreases-loop-node l = l.node
