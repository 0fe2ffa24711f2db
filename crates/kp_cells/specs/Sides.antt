-- The parts and the state of either side.
use Rattle.std.specs.Prelude.{Bool, cond}
use Rattle.kp_model.specs.State.{State}
use Rattle.kp_cells.specs.Parts.{Parts}
use Rattle.kp_cells.specs.Overlays.{Overlays, latest_parts, committed_parts, latest_state, committed_state}

-- the parts under all layers, or below them
abbrev pub parts_at : Bool → Overlays → Parts
parts_at latest o = cond latest (latest_parts o) (committed_parts o)

-- the state that they stand for
abbrev pub state_at : Bool → Overlays → State
state_at latest o = cond latest (latest_state o) (committed_state o)
