-- A state that is poured into a value, part by part.
use Rattle.std.specs.Prelude.{ℕ, List}
use Rattle.std.specs.FinMap as map
use Rattle.kp_model.specs.declared.node.Acl.{Acl}
use Rattle.kp_model.specs.declared.node.Node.{Node}
use Rattle.kp_model.specs.declared.node.Meta.{Meta}
use Rattle.kp_model.specs.declared.session.Session.{Session}
use Rattle.kp_model.specs.State.{State}

-- the node of these parts; its length and its children are told by the tree
abbrev pub node_of : List ℕ → List Acl → Meta → Node
node_of bytes acl m = record { bytes = bytes; acl = acl; czxid = m.czxid; mzxid = m.mzxid; pzxid = m.pzxid; ctime = m.ctime; mtime = m.mtime; version = m.version; cversion = m.cversion; aversion = m.aversion; owner = m.owner; created = m.created }

-- the state with these two numbers
abbrev pub started : State → ℕ → ℕ → State
started s applied next = record s { applied = applied; next = next }

-- the state with this session, in place of one that had its number
abbrev pub with_session : State → ℕ → Session → State
with_session s id x = record s { sessions = map.insert s.sessions id x }

-- the state with this node, in place of one that had its path
abbrev pub with_node : State → List ℕ → Node → State
with_node s p n = record s { nodes = map.insert s.nodes p n }
