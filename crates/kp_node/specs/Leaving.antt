-- What becomes of the connections where an image is taken, and the term may have risen.
use Rattle.std.specs.Prelude.{◌≡◌, ℕ, Bool, true, false, List}
use Rattle.kp_seats.specs.Seating.{Seating}
use Rattle.kp_watch.specs.declared.watch.Watch.{Watch}
use Rattle.kp_step.specs.declared.seat.Seat.{Seat}
use Rattle.kp_node.specs.Walking.{IsTurned}
use Rattle.kp_node.specs.Rising.{IsSeatRisen, IsSeatEnded}
use Rattle.kp_node.specs.Reactions.{Turns}

-- a connection behind a risen term, where it rose
abbrev pub IsSeatRisenIf : Bool → ℕ → ℕ → Seat → Seat → Type 0
IsSeatRisenIf true zxid k s s' = IsSeatRisen zxid k s s'
IsSeatRisenIf false zxid k s s' = s' ≡ s

-- a connection that ended with all others, behind that
abbrev pub IsSeatLeft : Bool → ℕ → ℕ → Seat → Seat → Type 0
IsSeatLeft rose zxid k s s' = (t : Seat) × IsSeatRisenIf rose zxid k s t × IsSeatEnded k t s'

-- the connections behind a message by which the term rose, or didn't, and an image was taken, or none
abbrev pub Leaves : Bool → Bool → ℕ → Seating Seat → List Watch → Seating Seat → List Watch → List ℕ → ℕ → Type 0
Leaves rose true zxid t ws u vs ready lost = IsTurned (IsSeatLeft rose zxid) t ws u vs ready lost
Leaves rose false zxid t ws u vs ready lost = Turns rose zxid t ws u vs ready lost
