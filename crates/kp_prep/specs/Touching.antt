-- The keys that a layer writes at, and those that may be written at.
use Rattle.std.specs.Prelude.{ℕ, List, [], ◌++◌, map, Option, unwrap_or, slice_get, IsTrue}
use Rattle.std.specs.List.{list_all}
use Rattle.std.specs.declared.cmp.Ordering.{Ordering}
use Rattle.kp_layers.specs.Layering.{Layering, staged_of}
use Rattle.kp_model.specs.declared.node.Acl.{Acl}
use Rattle.kp_model.specs.declared.node.Meta.{Meta}
use Rattle.kp_model.specs.declared.session.Session.{Session}
use Rattle.kp_model.specs.Touched.{Touched}
use Rattle.kp_cells.specs.Overlays.{Overlays}
use Rattle.kp_act.specs.Among.{is_among, is_one_of}

-- the paths that a layer writes at in any part, and the sessions
pub record Keys : Type 0 where
  pub paths : List (List ℕ)
  pub sessions : List ℕ

-- the keys of writes
abbrev pub keys : {K V : Type 0} → List (K × Option V) → List K
keys ws = map (λ w. w.0) ws

-- the keys of the writes in all parts
abbrev pub keys_of : List (List ℕ × Option Meta) → List (List ℕ × Option (List ℕ)) → List (List ℕ × Option (List Acl)) → List (List ℕ × Option (Unit {0})) → List (List ℕ × Option ℕ) → List (ℕ × Option Session) → Keys
keys_of metas contents acls children owners sessions = record {
  paths = keys metas ++ (keys contents ++ (keys acls ++ (keys children ++ keys owners)));
  sessions = keys sessions;
}

-- the keys that the open layer writes at
abbrev pub staged_keys : Overlays → Keys
staged_keys o = keys_of (staged_of o.metas) (staged_of o.contents) (staged_of o.acls) (staged_of o.children) (staged_of o.owners) (staged_of o.sessions)

-- the writes of the sealed layer at this place, counted from 0
abbrev pub layer : {K : Type 0} {R : K → K → Ordering} {V : Type 0} → ℕ → Layering R V → List (K × Option V)
layer j l = unwrap_or (slice_get l.layers j) []

-- the keys that the sealed layer at this place writes at
abbrev pub layer_keys : ℕ → Overlays → Keys
layer_keys j o = keys_of (layer j o.metas) (layer j o.contents) (layer j o.acls) (layer j o.children) (layer j o.owners) (layer j o.sessions)

-- every key is one that is touched
pub record AreWithin (t : Touched) (k : Keys) : Type 0 where
  pub paths : IsTrue (list_all (is_among t.paths) k.paths)
  pub sessions : IsTrue (list_all (is_one_of t.sessions) k.sessions)
