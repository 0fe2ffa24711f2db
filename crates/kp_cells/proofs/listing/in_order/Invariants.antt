use Rattle.std.proofs.Common.{◌≡◌, ◌++◌, length}
use Rattle.kp_cells.proofs.listing.in_order.Given as goal

abbrev pub invariant-drain : goal.invariant-drain
invariant-drain l = l.paths.items ++ l.found.keys ≡ l.initial.found.keys

abbrev pub decreases-drain : goal.decreases-drain
decreases-drain l = length l.found.keys
