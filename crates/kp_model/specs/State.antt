-- The tree with its sessions, and what is seen of it.
use Rattle.std.specs.Prelude.{ℕ, Bool, false, not, ◌&&◌, ◌==◌, min, List, [], ◌∷◌, length, map, Option}
use Rattle.std.specs.List.{filter, list_any}
use Rattle.std.specs.Option.{option_map, option_map_or}
use Rattle.std.specs.Str.{bytes_eq}
use Rattle.std.specs.Ordering.{nat_cmp}
use Rattle.std.specs.declared.cmp.Ordering.{Ordering}
use Rattle.std.specs.Cmp.Lexicographic.{slice_cmp}
use Rattle.std.specs.FinMap as map
use Rattle.kp_model.specs.declared.node.Acl.{Acl}
use Rattle.kp_model.specs.declared.node.Node.{Node}
use Rattle.kp_model.specs.declared.node.Meta.{Meta}
use Rattle.kp_model.specs.declared.node.Seen.{Seen}
use Rattle.kp_model.specs.declared.session.Session.{Session}
use Rattle.kp_model.specs.declared.session.Origin.{Origin}
use Rattle.kp_model.specs.Path.{root, parent, name}
use lib.Chars.{codes}

-- paths are ordered by their bytes
abbrev pub path_cmp : List ℕ → List ℕ → Ordering
path_cmp = slice_cmp nat_cmp

-- the nodes by their paths
abbrev pub Nodes : Type 0
Nodes = map.FinMap path_cmp Node

-- the sessions by their numbers
abbrev pub Sessions : Type 0
Sessions = map.FinMap nat_cmp Session

-- the tree, the sessions, the number that the next session gets, and the index of the last entry that was taken in
pub record State : Type 0 where
  pub nodes : Nodes
  pub sessions : Sessions
  pub next : ℕ
  pub applied : ℕ

-- the access list that gives every right to everyone
abbrev pub open_acl : List Acl
open_acl = record { perms = 31; scheme = codes "world"; id = codes "anyone" } ∷ []

-- a node without data, with every right for everyone and every number 0
abbrev pub blank_node : Node
blank_node = record { bytes = []; acl = open_acl; czxid = 0; mzxid = 0; pzxid = 0; ctime = 0; mtime = 0; version = 0; cversion = 0; aversion = 0; owner = 0; created = 0 }

-- the root alone, and no session
unfoldable pub empty : State
empty = record { nodes = map.insert map.empty root blank_node; sessions = map.empty; next = 1; applied = 0 }

-- whether q is a child of p
unfoldable pub is_child : List ℕ → List ℕ → Bool
is_child p q = not (bytes_eq q root) && bytes_eq (parent q) p

-- the paths of the children of p, ascending
unfoldable pub children : Nodes → List ℕ → List (List ℕ)
children nodes p = filter (is_child p) (map.keys nodes)

-- the names of the children of p, ascending
unfoldable pub kids : Nodes → List ℕ → List (List ℕ)
kids nodes p = map name (children nodes p)

-- whether the node at q has this owner
abbrev pub is_owned : Nodes → ℕ → List ℕ → Bool
is_owned nodes id q = option_map_or (λ (n : Node). n.owner == id) (map.get nodes q) false

-- the paths of the nodes that a session owns, ascending
unfoldable pub owned : Nodes → ℕ → List (List ℕ)
owned nodes id = filter (is_owned nodes id) (map.keys nodes)

-- the numbers of a node with so many children
abbrev pub meta_of : ℕ → Node → Meta
meta_of count n = record {
  czxid = n.czxid;
  mzxid = n.mzxid;
  pzxid = n.pzxid;
  ctime = n.ctime;
  mtime = n.mtime;
  version = n.version;
  cversion = n.cversion;
  aversion = n.aversion;
  owner = n.owner;
  created = n.created;
  len = length n.bytes;
  kids = min count 2147483647;
}

-- what is shown of the node at p
unfoldable pub stat : Nodes → List ℕ → Node → Meta
stat nodes p n = meta_of (length (children nodes p)) n

-- the data and the numbers of the node at p, where there is one
unfoldable pub seen : Nodes → List ℕ → Option Seen
seen nodes p = option_map (λ n. record { bytes = n.bytes; meta = stat nodes p n }) (map.get nodes p)

-- the same, each by itself
unfoldable pub meta_at : Nodes → List ℕ → Option Meta
meta_at nodes p = option_map (stat nodes p) (map.get nodes p)

unfoldable pub bytes_at : Nodes → List ℕ → Option (List ℕ)
bytes_at nodes p = option_map (λ (n : Node). n.bytes) (map.get nodes p)

unfoldable pub acl_at : Nodes → List ℕ → Option (List Acl)
acl_at nodes p = option_map (λ (n : Node). n.acl) (map.get nodes p)

-- whether two origins are the same
abbrev pub same_origin : Origin → Origin → Bool
same_origin a b = a.node == b.node && (a.boot == b.boot && a.conn == b.conn)

-- whether a live session is held by this origin
unfoldable pub is_held : Sessions → Origin → Bool
is_held sessions origin = list_any (λ (x : Session). same_origin x.holder origin) (map.values sessions)
