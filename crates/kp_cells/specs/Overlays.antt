-- The value of a `Cells`: each part of the state under layers of writes.
use Rattle.std.specs.Prelude.{◌≡◌, ℕ, ◌+◌, ◌==◌, min, Bool, false, if◌then◌else◌, List, [], length, take, Option, Some, None, unwrap_or, IsSome}
use Rattle.std.specs.Option.{option_map_or}
use Rattle.std.specs.Ordering.{nat_cmp}
use Rattle.std.specs.FinMap as map
use Rattle.std.specs.declared.cmp.Ordering.{Ordering}
use Rattle.kp_layers.specs.Layering.{Layering, latest_of, staged_of, overlay_all, begun, written, undone, sealed, abandoned, front_committed, back_dropped, empty_layering}
use Rattle.kp_model.specs.declared.node.Acl.{Acl}
use Rattle.kp_model.specs.declared.node.Meta.{Meta}
use Rattle.kp_model.specs.declared.session.Session.{Session}
use Rattle.kp_model.specs.State.{State, path_cmp, meta_of, blank_node, open_acl}
use Rattle.kp_model.specs.Path.{root}
use Rattle.kp_cells.specs.declared.cells.CellsMark.{CellsMark}
use Rattle.kp_cells.specs.Parts.{Parts, parts_of, whole}

-- the layers of each part, by path or by session, and the index of the last entry that was made part of the bases
pub record Overlays : Type 0 where
  pub metas : Layering path_cmp Meta
  pub contents : Layering path_cmp (List ℕ)
  pub acls : Layering path_cmp (List Acl)
  pub children : Layering path_cmp (Unit {0})
  pub owners : Layering path_cmp ℕ
  pub sessions : Layering nat_cmp Session
  -- the next session number, at the key 0
  pub next : Layering nat_cmp ℕ
  pub applied : ℕ

-- a layer is open, in all parts alike
abbrev pub IsOpen : Overlays → Type 0
IsOpen o = IsSome o.metas.staged

-- no layer is open
abbrev pub IsClosed : Overlays → Type 0
IsClosed o = o.metas.staged ≡ None

-- how many sealed layers there are, in all parts alike
abbrev pub depth : Overlays → ℕ
depth o = length o.metas.layers

-- the next session number; 1 where none was set
abbrev pub next_in : map.FinMap nat_cmp ℕ → ℕ
next_in m = unwrap_or (map.get m 0) 1

-- the parts below all layers
abbrev pub committed_parts : Overlays → Parts
committed_parts o = record {
  metas = o.metas.base;
  contents = o.contents.base;
  acls = o.acls.base;
  children = o.children.base;
  owners = o.owners.base;
  sessions = o.sessions.base;
  next = next_in o.next.base;
}

-- the parts under all layers, the open one last
abbrev pub latest_parts : Overlays → Parts
latest_parts o = record {
  metas = latest_of o.metas;
  contents = latest_of o.contents;
  acls = latest_of o.acls;
  children = latest_of o.children;
  owners = latest_of o.owners;
  sessions = latest_of o.sessions;
  next = next_in (latest_of o.next);
}

-- one part under its first k sealed layers
abbrev pub under : {K : Type 0} {R : K → K → Ordering} {V : Type 0} → ℕ → Layering R V → map.FinMap R V
under k l = overlay_all l.base (take k l.layers)

-- the parts under the first k sealed layers
abbrev pub parts_under : ℕ → Overlays → Parts
parts_under k o = record {
  metas = under k o.metas;
  contents = under k o.contents;
  acls = under k o.acls;
  children = under k o.children;
  owners = under k o.owners;
  sessions = under k o.sessions;
  next = next_in (under k o.next);
}

-- the state that the committed view stands for, where its parts fit together
abbrev pub committed_state : Overlays → State
committed_state o = whole o.applied (committed_parts o)

-- the state that the latest view stands for, where its parts fit together: each sealed layer is that of one entry
abbrev pub latest_state : Overlays → State
latest_state o = whole (o.applied + depth o) (latest_parts o)

-- a write more in the open layer of one part
abbrev pub with_meta : Overlays → List ℕ → Option Meta → Overlays
with_meta o path value = record o { metas = written o.metas path value }

abbrev pub with_content : Overlays → List ℕ → Option (List ℕ) → Overlays
with_content o path value = record o { contents = written o.contents path value }

abbrev pub with_acl : Overlays → List ℕ → Option (List Acl) → Overlays
with_acl o path value = record o { acls = written o.acls path value }

-- whether the path is among its parent's children
abbrev pub with_child : Overlays → List ℕ → Bool → Overlays
with_child o path there = record o { children = written o.children path (if there then Some (tt {0}) else None) }

abbrev pub with_owner : Overlays → List ℕ → Option ℕ → Overlays
with_owner o path value = record o { owners = written o.owners path value }

-- whether the session owns the path: another owner is replaced by it, and is not touched where it gives up what it doesn't own
unfoldable pub with_owned : Overlays → List ℕ → ℕ → Bool → Overlays
with_owned o path id there =
    if there then with_owner o path (Some id)
    else (if option_map_or (λ n. n == id) (map.get (latest_of o.owners) path) false then with_owner o path None else o)

abbrev pub with_session : Overlays → ℕ → Option Session → Overlays
with_session o id value = record o { sessions = written o.sessions id value }

abbrev pub with_next : Overlays → ℕ → Overlays
with_next o n = record o { next = written o.next 0 (Some n) }

-- each part with an open layer that has no writes
abbrev pub all_begun : Overlays → Overlays
all_begun o = record { metas = begun o.metas; contents = begun o.contents; acls = begun o.acls; children = begun o.children; owners = begun o.owners; sessions = begun o.sessions; next = begun o.next; applied = o.applied }

-- each part with its open layer behind the sealed ones
abbrev pub all_sealed : Overlays → Overlays
all_sealed o = record { metas = sealed o.metas; contents = sealed o.contents; acls = sealed o.acls; children = sealed o.children; owners = sealed o.owners; sessions = sealed o.sessions; next = sealed o.next; applied = o.applied }

-- each part without its open layer
abbrev pub all_abandoned : Overlays → Overlays
all_abandoned o = record { metas = abandoned o.metas; contents = abandoned o.contents; acls = abandoned o.acls; children = abandoned o.children; owners = abandoned o.owners; sessions = abandoned o.sessions; next = abandoned o.next; applied = o.applied }

-- how many writes the open layer of each part has
abbrev pub marks_of : Overlays → CellsMark
marks_of o = record { metas = length (staged_of o.metas); contents = length (staged_of o.contents); acls = length (staged_of o.acls); children = length (staged_of o.children); owners = length (staged_of o.owners); sessions = length (staged_of o.sessions); next = length (staged_of o.next) }

-- each part with the first so many writes of its open layer
abbrev pub all_undone : Overlays → CellsMark → Overlays
all_undone o m = record { metas = undone o.metas m.metas; contents = undone o.contents m.contents; acls = undone o.acls m.acls; children = undone o.children m.children; owners = undone o.owners m.owners; sessions = undone o.sessions m.sessions; next = undone o.next m.next; applied = o.applied }

-- the applied index is one more where a layer was sealed; it stands still at its type's end
abbrev pub applied_after : ℕ → ℕ → ℕ
applied_after applied layers = min (applied + min layers 1) 18446744073709551615

-- each part with its first sealed layer made on the base
abbrev pub all_committed : Overlays → Overlays
all_committed o = record { metas = front_committed o.metas; contents = front_committed o.contents; acls = front_committed o.acls; children = front_committed o.children; owners = front_committed o.owners; sessions = front_committed o.sessions; next = front_committed o.next; applied = applied_after o.applied (depth o) }

-- each part without its last sealed layer
abbrev pub all_dropped : Overlays → Overlays
all_dropped o = record { metas = back_dropped o.metas; contents = back_dropped o.contents; acls = back_dropped o.acls; children = back_dropped o.children; owners = back_dropped o.owners; sessions = back_dropped o.sessions; next = back_dropped o.next; applied = o.applied }

-- no layers, on a base
abbrev pub settled_part : {K : Type 0} {R : K → K → Ordering} {V : Type 0} → map.FinMap R V → Layering R V
settled_part m = record { base = m; layers = []; staged = None }

-- the parts of a state with no layers on them
abbrev pub settled : ℕ → Parts → Overlays
settled applied p = record { metas = settled_part p.metas; contents = settled_part p.contents; acls = settled_part p.acls; children = settled_part p.children; owners = settled_part p.owners; sessions = settled_part p.sessions; next = settled_part (map.insert map.empty 0 p.next); applied = applied }

-- the parts are those of the committed state, with no layer on them
abbrev pub IsSettled : Overlays → Type 0
IsSettled o = o ≡ settled o.applied (parts_of (committed_state o))

-- the open layer made on the base behind the first sealed one, while the applied index stays
abbrev pub taken_in : Overlays → Overlays
taken_in o = record (all_committed (all_sealed o)) { applied = o.applied }

-- no nodes, no sessions and no layers
abbrev pub blank_overlays : Overlays
blank_overlays = record { metas = empty_layering; contents = empty_layering; acls = empty_layering; children = empty_layering; owners = empty_layering; sessions = empty_layering; next = empty_layering; applied = 0 }

-- the parts of the root alone: it has no data, gives every right to everyone, and all its numbers are 0
abbrev pub root_parts : Parts
root_parts = record {
  metas = map.insert map.empty root (meta_of 0 blank_node);
  contents = map.insert map.empty root [];
  acls = map.insert map.empty root open_acl;
  children = map.empty;
  owners = map.empty;
  sessions = map.empty;
  next = 1;
}
