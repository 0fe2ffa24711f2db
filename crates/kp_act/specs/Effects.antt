-- What is found to be done, and what it does to the parts of a state.
use Rattle.std.specs.Prelude.{◌≡◌, ℕ, Bool, true, false, ◌+◌, ◌==◌, min, List, [], ◌∷◌, length, Some, None, IsTrue, IsSome, if◌then◌else◌}
use Rattle.std.specs.Str.{bytes_eq}
use Rattle.std.specs.FinMap as map
use Rattle.kp_model.specs.declared.node.Acl.{Acl}
use Rattle.kp_model.specs.declared.node.Meta.{Meta}
use Rattle.kp_model.specs.declared.command.Cmd.{Cmd}
use Rattle.kp_model.specs.declared.command.Cmd.TheVariants as cmd
use Rattle.kp_model.specs.declared.reply.Event.TheVariants as event
use Rattle.kp_model.specs.declared.reply.Reply.{Reply}
use Rattle.kp_model.specs.declared.reply.Reply.TheVariants as reply
use Rattle.kp_model.specs.Grammar.{is_length}
use Rattle.kp_model.specs.Path.{root, parent, is_well_formed}
use Rattle.kp_model.specs.State.{State, Nodes, path_cmp, meta_of, meta_at}
use Rattle.kp_model.specs.Poured.{node_of}
use Rattle.kp_model.specs.Step.{Outcome, rises, new_node, changed, made_path, place_fails, delete_fails, version_fails, owner_fails}
use Rattle.kp_cells.specs.Parts.{Parts, parts_of}
use Rattle.kp_act.specs.declared.plan.Act.{Act}
use Rattle.kp_act.specs.declared.plan.Effect.{Effect}
use Rattle.kp_act.specs.declared.plan.Effect.TheVariants as effect
use Rattle.kp_act.specs.declared.plan.Found.{Found}

-- a path that has a parent
abbrev pub IsChildPath : List ℕ → Type 0
IsChildPath path = IsTrue (is_well_formed path) × (bytes_eq path root ≡ false)

-- such a path, whose parent is a path too
pub record IsFamily (path : List ℕ) : Type 0 where
  pub child : IsChildPath path
  pub above : IsTrue (is_well_formed (parent path))

-- there is a place for a node at the path, whose parent shows these numbers
pub record MayCreate (nodes : Nodes) (ids : List (List ℕ)) (path : List ℕ) (up : Meta) : Type 0 where
  pub passes : place_fails nodes ids path ≡ None
  pub parent : meta_at nodes (parent path) ≡ Some up
  pub free : meta_at nodes path ≡ None
  pub child : IsChildPath path

-- the node may be removed, which shows these numbers, and its parent those
pub record MayRemove (nodes : Nodes) (ids : List (List ℕ)) (path : List ℕ) (version : ℕ) (found : Found) : Type 0 where
  pub passes : delete_fails nodes ids path version ≡ None
  pub parent : meta_at nodes (parent path) ≡ Some found.up
  pub there : meta_at nodes path ≡ Some found.meta
  pub child : IsChildPath path

-- the node has the version and the right that are asked for, and shows these numbers
pub record IsFound (nodes : Nodes) (ids : List (List ℕ)) (perm : ℕ) (path : List ℕ) (version : ℕ) (m : Meta) : Type 0 where
  pub passes : version_fails nodes ids perm path version ≡ None
  pub there : meta_at nodes path ≡ Some m
  pub well_formed : IsTrue (is_well_formed path)

-- the node's list may be set and has the version that is asked for, and the node shows these numbers
pub record IsOwnerFound (nodes : Nodes) (ids : List (List ℕ)) (path : List ℕ) (version : ℕ) (m : Meta) : Type 0 where
  pub passes : owner_fails ids version (map.get nodes path) ≡ None
  pub there : meta_at nodes path ≡ Some m

-- the shown numbers of a parent with one child more
abbrev pub with_child_shown : ℕ → Meta → Meta
with_child_shown i m = record m { pzxid = i; cversion = rises m.cversion; created = rises m.created; kids = min (m.kids + 1) 2147483647 }

-- the shown numbers of a parent with one child less, where these are left
abbrev pub without_child_shown : ℕ → ℕ → Meta → Meta
without_child_shown i kids m = record m { pzxid = i; cversion = rises m.cversion; kids = kids }

-- the shown numbers of a node whose data is set
abbrev pub with_data_shown : ℕ → ℕ → List ℕ → Meta → Meta
with_data_shown i t bytes m = record m { version = rises m.version; mzxid = i; mtime = t; len = length bytes }

-- the shown numbers of a node whose list is set
abbrev pub with_acl_shown : Meta → Meta
with_acl_shown m = record m { aversion = rises m.aversion }

-- a reply, and nothing that is done
abbrev pub answered_act : Reply → Act
answered_act r = record { prepared = record { reply = r; events = [] }; effect = effect.Nothing }

-- a node with this owner is made, whose parent showed these numbers
abbrev pub made_act : ℕ → ℕ → List ℕ → List ℕ → List Acl → ℕ → Bool → Meta → Act
made_act i t path bytes acl owner with_stat up = let m = meta_of 0 (new_node i t bytes acl owner) in record {
  prepared = record {
    reply = if with_stat then reply.PathStat path m else reply.Path path;
    events = event.Created path ∷ event.ChildrenChanged (parent path) ∷ [];
  };
  effect = effect.Make path bytes acl m (with_child_shown i up);
}

-- a node is removed, and its parent has so many children left
abbrev pub gone_act : ℕ → List ℕ → Found → ℕ → Act
gone_act i path found kids = record {
  prepared = record {
    reply = reply.Done;
    events = event.Deleted path ∷ event.ChildrenChanged (parent path) ∷ [];
  };
  effect = effect.Remove path (without_child_shown i kids found.up) found.meta.owner;
}

-- the data of a node is set, which showed these numbers
abbrev pub set_act : ℕ → ℕ → List ℕ → List ℕ → Meta → Act
set_act i t path bytes m = record {
  prepared = record {
    reply = reply.Stat (with_data_shown i t bytes m);
    events = event.DataChanged path ∷ [];
  };
  effect = effect.Set path bytes (with_data_shown i t bytes m);
}

-- the list of a node is set, which showed these numbers
abbrev pub set_acl_act : List ℕ → List Acl → Meta → Act
set_acl_act path acl m = record {
  prepared = record { reply = reply.Stat (with_acl_shown m); events = [] };
  effect = effect.SetAcl path acl (with_acl_shown m);
}

-- the owners with that of a node that is made, where it has one
abbrev pub owned_by : map.FinMap path_cmp ℕ → ℕ → List ℕ → map.FinMap path_cmp ℕ
owned_by owners owner path = if owner == 0 then owners else map.insert owners path owner

-- the owners without that of a node, where it has one
abbrev pub disowned : map.FinMap path_cmp ℕ → ℕ → List ℕ → map.FinMap path_cmp ℕ
disowned owners owner path = if owner == 0 then owners else map.remove owners path

-- the parts after an effect
abbrev pub effected : Parts → Effect → Parts
effected p effect.Nothing = p
effected p (effect.Make path bytes acl meta up) = record p {
  metas = map.insert (map.insert p.metas (parent path) up) path meta;
  contents = map.insert p.contents path bytes;
  acls = map.insert p.acls path acl;
  children = map.insert p.children path (tt {0});
  owners = owned_by p.owners meta.owner path;
}
effected p (effect.Remove path up owner) = record p {
  metas = map.remove (map.insert p.metas (parent path) up) path;
  contents = map.remove p.contents path;
  acls = map.remove p.acls path;
  children = map.remove p.children path;
  owners = disowned p.owners owner path;
}
effected p (effect.Set path bytes meta) = record p {
  metas = map.insert p.metas path meta;
  contents = map.insert p.contents path bytes;
}
effected p (effect.SetAcl path acl meta) = record p {
  metas = map.insert p.metas path meta;
  acls = map.insert p.acls path acl;
}

-- the nodes with the one at a path showing other numbers, where there is one
abbrev pub renumbered : Nodes → List ℕ → Meta → Nodes
renumbered nodes p m = changed (λ n. node_of n.bytes n.acl m) p (map.get nodes p) nodes

-- the nodes after an effect
abbrev pub effected_nodes : Nodes → Effect → Nodes
effected_nodes nodes effect.Nothing = nodes
effected_nodes nodes (effect.Make path bytes acl meta up) = map.insert (renumbered nodes (parent path) up) path (node_of bytes acl meta)
effected_nodes nodes (effect.Remove path up owner) = map.remove (renumbered nodes (parent path) up) path
effected_nodes nodes (effect.Set path bytes meta) = changed (λ n. node_of bytes n.acl meta) path (map.get nodes path) nodes
effected_nodes nodes (effect.SetAcl path acl meta) = changed (λ n. node_of n.bytes acl meta) path (map.get nodes path) nodes

-- the owner that a path has is this one, where it is one
abbrev pub OwnerIs : map.FinMap path_cmp ℕ → ℕ → List ℕ → Type 0
OwnerIs owners owner path = (owner == 0) ≡ false → map.get owners path ≡ Some owner

-- an effect tells the owner of a node that is removed
abbrev pub TellsOwner : Parts → Effect → Type 0
TellsOwner p effect.Nothing = Unit {0}
TellsOwner p (effect.Make path bytes acl meta up) = Unit {0}
TellsOwner p (effect.Remove path up owner) = OwnerIs p.owners owner path
TellsOwner p (effect.Set path bytes meta) = Unit {0}
TellsOwner p (effect.SetAcl path acl meta) = Unit {0}

-- the paths of an effect are those of nodes
abbrev pub IsFit : Effect → Type 0
IsFit effect.Nothing = Unit {0}
IsFit (effect.Make path bytes acl meta up) = IsFamily path
IsFit (effect.Remove path up owner) = IsFamily path
IsFit (effect.Set path bytes meta) = IsTrue (is_well_formed path)
IsFit (effect.SetAcl path acl meta) = IsTrue (is_well_formed path)

-- the data of an effect fits its length field
abbrev pub FitsData : Effect → Type 0
FitsData effect.Nothing = Unit {0}
FitsData (effect.Make path bytes acl meta up) = IsTrue (is_length (length bytes))
FitsData (effect.Remove path up owner) = Unit {0}
FitsData (effect.Set path bytes meta) = IsTrue (is_length (length bytes))
FitsData (effect.SetAcl path acl meta) = Unit {0}

-- the effect is one on the node at this path
abbrev pub IsOn : List ℕ → Effect → Type 0
IsOn q effect.Nothing = Unit {0}
IsOn q (effect.Make path bytes acl meta up) = (path ≡ q) × IsFamily path
IsOn q (effect.Remove path up owner) = (path ≡ q) × IsFamily path
IsOn q (effect.Set path bytes meta) = (path ≡ q) × IsTrue (is_well_formed path)
IsOn q (effect.SetAcl path acl meta) = (path ≡ q) × IsTrue (is_well_formed path)

-- the path that a command on one node names or makes
abbrev pub path_of : Nodes → Cmd → List ℕ
path_of nodes (cmd.Create path bytes acl flags stat) = made_path nodes path flags
path_of nodes (cmd.Delete path version) = path
path_of nodes (cmd.SetData path bytes version) = path
path_of nodes (cmd.SetAcl path acl version) = path
path_of nodes (cmd.Check path version) = path
path_of nodes (cmd.Sync path) = path
path_of nodes (cmd.Auth scheme auth) = []
path_of nodes (cmd.Multi ops) = []
path_of nodes cmd.CloseSession = []

-- whether a command is one on one node
abbrev pub is_on_node : Cmd → Bool
is_on_node (cmd.Create path bytes acl flags stat) = true
is_on_node (cmd.Delete path version) = true
is_on_node (cmd.SetData path bytes version) = true
is_on_node (cmd.SetAcl path acl version) = true
is_on_node (cmd.Check path version) = true
is_on_node (cmd.Sync path) = true
is_on_node (cmd.Auth scheme auth) = false
is_on_node (cmd.Multi ops) = false
is_on_node cmd.CloseSession = false

-- an effect makes a node at a free path, whose parent is there, or changes one that is there
abbrev pub Suits : Nodes → Effect → Type 0
Suits nodes effect.Nothing = Unit {0}
Suits nodes (effect.Make path bytes acl meta up) = (map.get nodes path ≡ None) × IsSome (map.get nodes (parent path))
Suits nodes (effect.Remove path up owner) = IsSome (map.get nodes path) × IsSome (map.get nodes (parent path))
Suits nodes (effect.Set path bytes meta) = IsSome (map.get nodes path)
Suits nodes (effect.SetAcl path acl meta) = IsSome (map.get nodes path)

-- the act is what a command does that leads from a state to this outcome
pub record IsAct (path : List ℕ) (s : State) (o : Outcome) (a : Act) : Type 0 where
  pub reply : a.prepared.reply ≡ o.reply
  pub events : a.prepared.events ≡ o.events
  pub parts : effected (parts_of s) a.effect ≡ parts_of o.state
  pub nodes : effected_nodes s.nodes a.effect ≡ o.state.nodes
  pub on : IsOn path a.effect
  pub suits : Suits s.nodes a.effect
  pub owner : TellsOwner (parts_of s) a.effect
  pub fits : FitsData a.effect

-- the act is what a command does on each state with these nodes
abbrev pub DoesOn : List ℕ → Nodes → (State → Outcome) → Act → Type 0
DoesOn path nodes does a = (s : State) → IsAct path (record s { nodes = nodes }) (does (record s { nodes = nodes })) a
