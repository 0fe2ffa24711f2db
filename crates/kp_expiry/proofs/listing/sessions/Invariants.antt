use Rattle.std.proofs.Common.{◌≡◌, ℕ, take, map}
use Rattle.kp_expiry.proofs.listing.sessions.Given as goal

abbrev pub invariant-loop-pair : goal.invariant-loop-pair
invariant-loop-pair l = l.sessions.items ≡ map (λ (p : ℕ × ℕ). p.1) (take l.pair-index l.found)
