-- What the committed tree has.
use Rattle.std.specs.Prelude.{ℕ, ◌+◌, ◌==◌, not, Bool, List, length, map, sum}
use Rattle.std.specs.Option.{option_map_or}
use Rattle.std.specs.FinMap as map
use Rattle.kp_model.specs.declared.node.Node.{Node}
use Rattle.kp_model.specs.State.{State, Nodes, owned, bytes_at}
use Rattle.kp_words.specs.declared.facts.SessionPaths.{SessionPaths}

-- what the session owns
abbrev pub owner_facts : State → ℕ → SessionPaths
owner_facts s id = record { session = id; paths = owned s.nodes id }

-- whether it owns something
abbrev pub is_owner : State → ℕ → Bool
is_owner s id = not (length (owned s.nodes id) == 0)

-- the lengths of a path and of its node's data
abbrev pub size_of : List ℕ × Node → ℕ
size_of e = length e.0 + length e.1.bytes

-- those at a path
abbrev pub size_at : Nodes → List ℕ → ℕ
size_at nodes p = length p + option_map_or length (bytes_at nodes p) 0

-- those of all
abbrev pub size_in : State → ℕ
size_in s = sum (map size_of (map.entries s.nodes))
