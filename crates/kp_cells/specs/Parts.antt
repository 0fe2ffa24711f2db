-- The parts of a state, each a map of its own.
use Rattle.std.specs.Prelude.{◌≡◌, ℕ, not, ◌==◌, List, [], unwrap_or}
use Rattle.std.specs.Str.{bytes_eq}
use Rattle.std.specs.FinMap as map
use Rattle.kp_model.specs.declared.node.Acl.{Acl}
use Rattle.kp_model.specs.declared.node.Meta.{Meta}
use Rattle.kp_model.specs.State.{State, Sessions, path_cmp, stat}
use Rattle.kp_model.specs.Path.{root}
use Rattle.kp_model.specs.Poured.{node_of}
use Rattle.kp_cells.specs.Mapped.{mapped, kept, chosen}

-- paths, each once
abbrev pub PathSet : Type 0
PathSet = map.FinMap path_cmp (Unit {0})

-- what is known of the nodes, part by part, and the sessions; the applied index is no part
pub record Parts : Type 0 where
  -- what is shown of each node
  pub metas : map.FinMap path_cmp Meta
  pub contents : map.FinMap path_cmp (List ℕ)
  pub acls : map.FinMap path_cmp (List Acl)
  -- the paths that are among their parent's children
  pub children : PathSet
  -- the session of each node that has an owner
  pub owners : map.FinMap path_cmp ℕ
  pub sessions : Sessions
  -- the number that the next session gets
  pub next : ℕ

-- a state, taken apart
unfoldable pub parts_of : State → Parts
parts_of s = record {
  metas = mapped (stat s.nodes) s.nodes;
  contents = mapped (λ _ n. n.bytes) s.nodes;
  acls = mapped (λ _ n. n.acl) s.nodes;
  children = chosen (λ q _. not (bytes_eq q root)) s.nodes;
  owners = mapped (λ _ n. n.owner) (kept (λ _ n. not (n.owner == 0)) s.nodes);
  sessions = s.sessions;
  next = s.next;
}

-- the parts, put together to the state of this applied index
unfoldable pub whole : ℕ → Parts → State
whole applied p = record {
  nodes = mapped (λ q m. node_of (unwrap_or (map.get p.contents q) []) (unwrap_or (map.get p.acls q) []) m) p.metas;
  sessions = p.sessions;
  next = p.next;
  applied = applied;
}

-- the parts are those of one state
abbrev pub FitTogether : Parts → Type 0
FitTogether p = p ≡ parts_of (whole 0 p)
