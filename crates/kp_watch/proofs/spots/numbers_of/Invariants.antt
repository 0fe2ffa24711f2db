use Rattle.std.proofs.Common.{◌≡◌, ◌++◌}
use Rattle.std.proofs.Common.{ℕ, map}
use Rattle.kp_watch.proofs.spots.numbers_of.Given as goal

abbrev pub invariant-loop-number : goal.invariant-loop-number
invariant-loop-number l = l.ids.items ++ l.number-iterator ≡ map (λ (e : ℕ × ℕ). e.1) l.spot.entries
