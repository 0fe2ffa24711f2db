use Rattle.std.proofs.Common.{◌≡◌, ℕ, length, nat_eq}
use Rattle.std.specs.Option.{option_map}
use Rattle.std.specs.HashMap.{get}
use Rattle.kp_expiry.specs.Nodes.{tags}
use Rattle.kp_expiry.specs.Index.{known_before, IsIndex}
use Rattle.kp_expiry.proofs.expiry.hear_all.Given as goal

abbrev pub invariant-loop-node : goal.invariant-loop-node
invariant-loop-node l = (length l.slots ≡ length l.initial.slots) × IsIndex l.known.entries (tags l.slots) × ((k : ℕ) → get nat_eq l.known k ≡ option_map (known_before l.node l.now) (get nat_eq l.initial.known k))
