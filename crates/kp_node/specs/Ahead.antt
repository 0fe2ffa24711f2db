-- What was made before an event of Raft, where it may be needed.
use Rattle.std.specs.Prelude.{◌≡◌, ℕ, Bool, Option, Some, None, false}
use Rattle.std.specs.Ordering.{nat_cmp}
use Rattle.std.specs.FinMap.{FinMap}
use Rattle.kp_expiry.specs.declared.heard.Heard.{Heard}
use Rattle.kp_model.specs.State.{Sessions}
use Rattle.kp_step.specs.Node.{Seats}
use Rattle.kp_step.specs.Step.{all_heard}
use Rattle.kp_node.specs.declared.walking.Before.{Before}
use Rattle.kp_node.specs.Walking.{IsBefore}

-- the connections were looked at where this may be
abbrev pub IsLooked : Bool → Seats → Option Before → Type 0
IsLooked b m None = b ≡ false
IsLooked b m (Some before) = IsBefore m before.unready.items before.lost

-- all sessions are heard at this time, where this may be
abbrev pub IsHeardAhead : Bool → ℕ → Sessions → Option (FinMap nat_cmp Heard) → Type 0
IsHeardAhead b now sessions None = b ≡ false
IsHeardAhead b now sessions (Some heard) = heard ≡ all_heard now sessions
