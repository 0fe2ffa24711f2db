-- What is staged of a node that is poured in.
use Rattle.std.specs.Prelude.{ℕ, ◌+◌, ◌==◌, ◌||◌, min, true, if◌then◌else◌, List, Option, Some, None, is_some}
use Rattle.std.specs.Option.{option_map}
use Rattle.std.specs.Str.{bytes_eq}
use Rattle.std.specs.FinMap as map
use Rattle.kp_model.specs.declared.node.Acl.{Acl}
use Rattle.kp_model.specs.declared.node.Meta.{Meta}
use Rattle.kp_model.specs.Limits.{last_count}
use Rattle.kp_model.specs.Path.{root, parent}
use Rattle.kp_model.specs.State.{path_cmp}
use Rattle.kp_cells.specs.Overlays.{Overlays, with_meta, with_content, with_acl, with_child, with_owner}

-- what is shown of a node with one child more
abbrev pub one_more : Meta → Meta
one_more m = record m { kids = min (m.kids + 1) last_count }

-- what is shown of the parent, where the path is new and has one
abbrev pub grown : map.FinMap path_cmp Meta → List ℕ → Option Meta
grown metas path = if is_some (map.get metas path) || bytes_eq path root then None else option_map one_more (map.get metas (parent path))

-- with what is shown of a path, where that is told
abbrev pub with_shown : Overlays → List ℕ → Option Meta → Overlays
with_shown o path None = o
with_shown o path (Some m) = with_meta o path (Some m)

-- with the path among its parent's children, unless it is the root
abbrev pub with_place : Overlays → List ℕ → Overlays
with_place o path = if bytes_eq path root then o else with_child o path true

-- the session that owns the node, if there is one
abbrev pub owner_of : Meta → Option ℕ
owner_of m = if m.owner == 0 then None else Some m.owner

-- with all parts of a node, and what is shown of its parent
abbrev pub with_parts : Overlays → List ℕ → Option Meta → Meta → List ℕ → List Acl → Overlays
with_parts o path up m bytes acl =
    with_owner (with_place (with_acl (with_content (with_meta (with_shown o (parent path) up) path (Some m)) path (Some bytes)) path (Some acl)) path) path (owner_of m)
