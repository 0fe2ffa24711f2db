-- States that a run can reach: a tree, sessions that are numbered, and numbers within their limits.
use Rattle.std.specs.Prelude.{◌≡◌, ℕ, Bool, false, ◌==◌, ◌≤◌, ◌<◌, nat_le, IsTrue, IsSome, List, length, Some}
use Rattle.std.specs.List.{list_all}
use Rattle.std.specs.Str.{bytes_eq}
use Rattle.std.specs.FinMap as map
use Rattle.kp_model.specs.declared.node.Acl.{Acl}
use Rattle.kp_model.specs.declared.node.Node.{Node}
use Rattle.kp_model.specs.declared.session.Session.{Session}
use Rattle.kp_model.specs.Grammar.{is_number, is_timeout, is_origin, is_length}
use Rattle.kp_model.specs.Path.{root, parent, is_well_formed}
use Rattle.kp_model.specs.State.{State, Nodes, Sessions, same_origin}

-- the owner of a node is a live session, or 0
abbrev pub HasOwner : Sessions → Node → Type 0
HasOwner sessions n = (n.owner == 0) ≡ false → IsSome (map.get sessions n.owner)

-- a node that may have children: it has no owner
abbrev pub IsPersistent : Node → Type 0
IsPersistent n = n.owner ≡ 0

-- the parent is there, and may have children
abbrev pub HasParent : Nodes → List ℕ → Type 0
HasParent nodes p = (up : Node) × (map.get nodes (parent p) ≡ Some up) × IsPersistent up

-- every path but the root is well formed and has its parent
abbrev pub HasPlace : Nodes → List ℕ → Type 0
HasPlace nodes p = bytes_eq p root ≡ false → IsTrue (is_well_formed p) × HasParent nodes p

-- an access line with no other right than the five
abbrev pub has_perms : Acl → Bool
has_perms a = nat_le a.perms 31

-- a count of 31 bits
abbrev pub IsCount : ℕ → Type 0
IsCount n = n ≤ 2147483647

-- the numbers of a node: indexes that were applied, times, counts and rights within their limits, data that fits
pub record HasNumbers (applied : ℕ) (n : Node) : Type 0 where
  pub czxid : n.czxid ≤ applied
  pub mzxid : n.mzxid ≤ applied
  pub pzxid : n.pzxid ≤ applied
  pub ctime : IsTrue (is_number n.ctime)
  pub mtime : IsTrue (is_number n.mtime)
  pub version : IsCount n.version
  pub cversion : IsCount n.cversion
  pub aversion : IsCount n.aversion
  pub created : IsCount n.created
  pub bytes : IsTrue (is_length (length n.bytes))
  pub perms : IsTrue (list_all has_perms n.acl)

-- a session: its number was given out, and its numbers are within their limits
pub record IsGoodSession (next id : ℕ) (x : Session) : Type 0 where
  pub given : 1 ≤ id
  pub below : id < next
  pub timeout : IsTrue (is_timeout x.timeout)
  pub passwd : length x.passwd ≡ 16
  pub epoch : IsTrue (is_number x.epoch)
  pub seq : IsTrue (is_number x.seq)
  pub holder : IsTrue (is_origin x.holder)

-- the root is there, and has no owner
abbrev pub HasRoot : Nodes → Type 0
HasRoot nodes = (n : Node) × (map.get nodes root ≡ Some n) × IsPersistent n

-- a good state
pub record IsGood (s : State) : Type 0 where
  pub applied : IsTrue (is_number s.applied)
  pub next : IsTrue (is_number s.next)
  pub some : 1 ≤ s.next
  pub root_there : HasRoot s.nodes
  pub places : (p : List ℕ) (n : Node) → map.get s.nodes p ≡ Some n → HasPlace s.nodes p
  pub owners : (p : List ℕ) (n : Node) → map.get s.nodes p ≡ Some n → HasOwner s.sessions n
  pub numbers : (p : List ℕ) (n : Node) → map.get s.nodes p ≡ Some n → HasNumbers s.applied n
  pub sessions : (id : ℕ) (x : Session) → map.get s.sessions id ≡ Some x → IsGoodSession s.next id x

-- no two sessions have one holder
abbrev pub HasDistinctHolders : Sessions → Type 0
HasDistinctHolders sessions = (a b : ℕ) (x y : Session)
    → map.get sessions a ≡ Some x → map.get sessions b ≡ Some y → IsTrue (same_origin x.holder y.holder) → a ≡ b

-- a good state with distinct holders
pub record IsSound (s : State) : Type 0 where
  pub good : IsGood s
  pub holders : HasDistinctHolders s.sessions
