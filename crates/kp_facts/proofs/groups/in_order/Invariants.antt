use Rattle.std.proofs.Common.{◌≡◌, ◌++◌, length}
use Rattle.kp_facts.proofs.groups.in_order.Given as goal

abbrev pub invariant-drain : goal.invariant-drain
invariant-drain g l = l.list.items ++ l.set.keys ≡ l.initial.set.keys

abbrev pub decreases-drain : goal.decreases-drain
decreases-drain g l = length l.set.keys
