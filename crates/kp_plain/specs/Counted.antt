-- How many nodes and sessions there are.
use Rattle.std.specs.FinMap as map
use Rattle.kp_model.specs.State.{State}
use Rattle.kp_plain.specs.declared.store.Counts.{Counts}

-- of the committed state, and of the uncommitted one
abbrev pub counts_of : State → State → Counts
counts_of s t = record { nodes = map.len s.nodes; sessions = map.len s.sessions; all_nodes = map.len t.nodes; all_sessions = map.len t.sessions }
