-- The checks of the commands over what a view lends.
use Rattle.std.specs.Prelude.{◌≡◌, ℕ, ℤ, Bool, false, not, ◌==◌, List, Option, Some, None, if◌then◌else◌}
use Rattle.std.specs.Option.{option_map_or}
use Rattle.std.specs.FinMap as map
use Rattle.kp_model.specs.declared.node.Node.{Node}
use Rattle.kp_model.specs.Errors.{no_auth, bad_version, no_children_for_ephemerals, node_exists, not_empty}
use Rattle.kp_model.specs.Rights.{is_allowed}
use Rattle.kp_model.specs.Step.{is_version}
use Rattle.kp_model.specs.Good.{HasPlace}
use Rattle.kp_model.specs.State.{Nodes}

-- each node but the root is at a path with a parent that may have children
abbrev pub HavePlaces : Nodes → Type 0
HavePlaces nodes = (p : List ℕ) (n : Node) → map.get nodes p ≡ Some n → HasPlace nodes p

-- whether a node is there that gives the right
abbrev pub has_right : Option Node → List (List ℕ) → ℕ → Bool
has_right o ids perm = option_map_or (λ (n : Node). is_allowed ids n.acl perm) o false

-- the checks of a creation where the parent is there: the right on it, its owner, and whether the path is taken
abbrev pub room_fails : Bool → ℕ → Bool → Option ℤ
room_fails allowed owner taken =
    if not allowed then Some no_auth
    else (if not (owner == 0) then Some no_children_for_ephemerals
    else (if taken then Some node_exists else None))

-- the checks of a removal where the node is there: the right on its parent, its version, and its children
abbrev pub leave_fails : Bool → ℕ → ℕ → ℕ → Option ℤ
leave_fails allowed asked version kids =
    if not allowed then Some no_auth
    else (if not (is_version asked version) then Some bad_version
    else (if kids == 0 then None else Some not_empty))

-- the checks of a change where the node is there: the right on it, and its version
abbrev pub change_fails : Bool → ℕ → ℕ → Option ℤ
change_fails allowed asked version =
    if not allowed then Some no_auth
    else (if not (is_version asked version) then Some bad_version else None)
