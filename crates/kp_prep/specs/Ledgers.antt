-- Changes with the places of the last ones, and the nodes behind them.
use Rattle.std.specs.Prelude.{◌≡◌, ℕ, List, Option, Some, None, slice_get, String, string_bytes}
use Rattle.std.specs.Map.{lookup}
use Rattle.std.specs.Option.{option_map}
use Rattle.std.specs.Str.{bytes_eq}
use Rattle.std.specs.FinMap as map
use Rattle.kp_model.specs.declared.node.Node.{Node}
use Rattle.kp_model.specs.Poured.{node_of}
use Rattle.kp_model.specs.State.{State, Nodes}
use Rattle.kp_cells.specs.declared.change.Change.{Change}
use Rattle.kp_cells.specs.declared.change.Change.TheVariants as change
use Rattle.kp_cells.specs.declared.change.NodeValue.{NodeValue}
use Rattle.kp_prep.specs.Changing.{set_all}

-- the nodes of a state with all changes set
abbrev pub nodes_behind : State → List Change → Nodes
nodes_behind s cs = (set_all s cs).nodes

-- a node as a change sets it
abbrev pub node_from : NodeValue → Node
node_from v = node_of v.bytes v.acl v.meta

-- the node that a change sets, where it sets one
abbrev pub value_in : Option Change → Option NodeValue
value_in None = None
value_in (Some (change.Node p v)) = v
value_in (Some (change.Session id x)) = None
value_in (Some (change.NextSession n)) = None

-- the change at this place leaves a path as it is now
pub record IsLast (now : Nodes) (cs : List Change) (path : List ℕ) (place : ℕ) : Type 0 where
  pub value : Option NodeValue
  pub there : slice_get cs place ≡ Some (change.Node path value)
  pub same : map.get now path ≡ option_map node_from value

-- a place is that of a path's last change; without a place the path is as before
abbrev pub IsPlaced : Nodes → Nodes → List Change → List ℕ → Option ℕ → Type 0
IsPlaced nodes now cs path None = map.get now path ≡ map.get nodes path
IsPlaced nodes now cs path (Some place) = IsLast now cs path place

module _ {Z : Type 0} where
  -- the place that is kept of a path
  abbrev pub place_of : List (String Z × ℕ) → List ℕ → Option ℕ
  place_of places path = lookup (λ t. bytes_eq path (string_bytes t)) places

  -- the places are those of the last change of each path
  abbrev pub IsLedger : State → List Change → List (String Z × ℕ) → Type 0
  IsLedger s cs places = (path : List ℕ) → IsPlaced s.nodes (nodes_behind s cs) cs path (place_of places path)
