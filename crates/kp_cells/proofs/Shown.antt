-- What the parts have is what is seen of the state that they make.
use Rattle.std.proofs.Common.{◌≡◌, ℕ, Bool, true, false, cond, List, [], Option, Some, None, refl, ap, sym, ◌∙◌}
use Rattle.std.specs.Prelude.{map, not, unwrap_or, ◌==◌}
use Rattle.std.specs.List.{filter}
use Rattle.std.specs.Option.{option_map, option_map_or}
use Rattle.std.specs.FinMap as fin
use Rattle.kp_model.specs.declared.node.Node.{Node}
use Rattle.kp_model.specs.declared.node.Meta.{Meta}
use Rattle.kp_model.specs.Path.{name}
use Rattle.kp_model.specs.Poured.{node_of}
use Rattle.kp_model.specs.State.{path_cmp, stat, meta_at, bytes_at, acl_at, is_child, children, kids, owned, is_owned}
use Rattle.kp_cells.specs.Overlays.{Overlays, latest_parts, committed_parts, committed_state}
use Rattle.kp_cells.specs.Mapped.{kept}
use Rattle.kp_cells.specs.Parts.{Parts, parts_of, whole, FitTogether}
use Rattle.kp_cells.specs.Listed.{Test, side_of, passes}
use Rattle.kp_cells.specs.Sides.{parts_at, state_at}
use Rattle.kp_cells.proofs.Listed.{same_filter, filter-all}
use Rattle.kp_cells.proofs.Maps.{picked, passing, get-mapped, get-kept}
use Rattle.kp_cells.proofs.Paths.{path_total, path_same}

module _ (k : ℕ) (p : Parts) (q : List ℕ) (h : FitTogether p) where
  pub meta_shown : fin.get p.metas q ≡ meta_at (whole k p).nodes q
  unfolding parts_of whole meta_at
  meta_shown = ap (λ z. fin.get z.metas q) h ∙ get-mapped path_total path_same (stat (whole 0 p).nodes) (whole 0 p).nodes q

  pub content_shown : fin.get p.contents q ≡ bytes_at (whole k p).nodes q
  unfolding parts_of whole bytes_at
  content_shown = ap (λ z. fin.get z.contents q) h ∙ get-mapped path_total path_same (λ _ (n : Node). n.bytes) (whole 0 p).nodes q

  pub acl_shown : fin.get p.acls q ≡ acl_at (whole k p).nodes q
  unfolding parts_of whole acl_at
  acl_shown = ap (λ z. fin.get z.acls q) h ∙ get-mapped path_total path_same (λ _ (n : Node). n.acl) (whole 0 p).nodes q

-- the node that the parts make of what is shown of it
abbrev node_at : Parts → List ℕ → Meta → Node
node_at p q m = node_of (unwrap_or (fin.get p.contents q) []) (unwrap_or (fin.get p.acls q) []) m

module _ (k : ℕ) (p : Parts) where
  get-whole : (q : List ℕ) → fin.get (whole k p).nodes q ≡ option_map (node_at p q) (fin.get p.metas q)
  unfolding whole
  get-whole q = get-mapped path_total path_same (node_at p) p.metas q

  -- the keys that a test takes in both
  chosen_in : (f : Test) (g : List ℕ → Bool) → ((q : List ℕ) (m : Meta) → fin.get p.metas q ≡ Some m → f q m ≡ g q) → filter (passes f p.metas) (fin.keys p.metas) ≡ filter g (fin.keys (whole k p).nodes)
  chosen_in f g same = same_filter path_total path_same p.metas (whole k p).nodes (passes f p.metas) g (λ q. at q (fin.get p.metas q) refl ∙ ap (picked (λ _. g q)) (sym (get-whole q))) where
    at : (q : List ℕ) (r : Option Meta) → fin.get p.metas q ≡ r → picked (λ _. option_map_or (f q) r false) r ≡ picked (λ _. g q) (option_map (node_at p q) r)
    at q None e = refl
    at q (Some m) e = ap (λ b. cond b (Some (tt {0})) None) (same q m e)

  pub children_shown : (path : List ℕ) → filter (passes (λ q _. is_child path q) p.metas) (fin.keys p.metas) ≡ children (whole k p).nodes path
  unfolding children
  children_shown path = chosen_in (λ q _. is_child path q) (is_child path) (λ q m e. refl)

  pub kids_shown : (path : List ℕ) → map name (filter (passes (λ q _. is_child path q) p.metas) (fin.keys p.metas)) ≡ kids (whole k p).nodes path
  unfolding kids
  kids_shown path = ap (map name) (children_shown path)

  pub owned_shown : (id : ℕ) → filter (passes (λ _ m. m.owner == id) p.metas) (fin.keys p.metas) ≡ owned (whole k p).nodes id
  unfolding owned
  owned_shown id = chosen_in (λ _ m. m.owner == id) (is_owned (whole k p).nodes id) (λ q m e.
      sym (ap (λ r. option_map_or (λ (n : Node). n.owner == id) r false) (get-whole q ∙ ap (option_map (node_at p q)) e)))

  pub paths_shown : filter (passes (λ _ _. true) p.metas) (fin.keys p.metas) ≡ fin.keys (whole k p).nodes
  paths_shown = chosen_in (λ _ _. true) (λ _. true) (λ q m e. refl) ∙ filter-all (fin.keys (whole k p).nodes)

-- a node's owner is the one that is shown of it
pub owner_shown : (p : Parts) (q : List ℕ) (m : Meta) → FitTogether p → fin.get p.metas q ≡ Some m → (m.owner == 0) ≡ false → fin.get p.owners q ≡ Some m.owner
unfolding parts_of
owner_shown p q m h e some =
    ap (λ z. fin.get z.owners q) h
    ∙ get-mapped path_total path_same (λ _ (n : Node). n.owner) (kept (λ _ n. not (n.owner == 0)) (whole 0 p).nodes) q
    ∙ ap (option_map (λ (n : Node). n.owner)) (get-kept path_total path_same (λ _ (n : Node). not (n.owner == 0)) (whole 0 p).nodes q ∙ ap (passing (λ (n : Node). not (n.owner == 0))) (get-whole 0 p q ∙ ap (option_map (node_at p q)) e))
    ∙ ap (λ b. option_map (λ (n : Node). n.owner) (cond (not b) (Some (node_at p q m)) None)) some

-- in the words of the views
pub meta_on : (latest : Bool) (o : Overlays) (q : List ℕ) → FitTogether (parts_at latest o) → fin.get (side_of latest o.metas) q ≡ meta_at (state_at latest o).nodes q
meta_on true o q h = meta_shown _ (latest_parts o) q h
meta_on false o q h = meta_shown _ (committed_parts o) q h

pub content_on : (latest : Bool) (o : Overlays) (q : List ℕ) → FitTogether (parts_at latest o) → fin.get (side_of latest o.contents) q ≡ bytes_at (state_at latest o).nodes q
content_on true o q h = content_shown _ (latest_parts o) q h
content_on false o q h = content_shown _ (committed_parts o) q h

pub acl_on : (latest : Bool) (o : Overlays) (q : List ℕ) → FitTogether (parts_at latest o) → fin.get (side_of latest o.acls) q ≡ acl_at (state_at latest o).nodes q
acl_on true o q h = acl_shown _ (latest_parts o) q h
acl_on false o q h = acl_shown _ (committed_parts o) q h

pub sessions_on : (latest : Bool) (o : Overlays) → side_of latest o.sessions ≡ (state_at latest o).sessions
unfolding whole
sessions_on true o = refl
sessions_on false o = refl

pub next_on : (latest : Bool) (o : Overlays) → (parts_at latest o).next ≡ (state_at latest o).next
unfolding whole
next_on true o = refl
next_on false o = refl

pub kids_on : (latest : Bool) (o : Overlays) (path : List ℕ) → map name (filter (passes (λ q _. is_child path q) (side_of latest o.metas)) (fin.keys (side_of latest o.metas))) ≡ kids (state_at latest o).nodes path
kids_on true o path = kids_shown _ (latest_parts o) path
kids_on false o path = kids_shown _ (committed_parts o) path

pub owned_on : (latest : Bool) (o : Overlays) (id : ℕ) → filter (passes (λ _ m. m.owner == id) (side_of latest o.metas)) (fin.keys (side_of latest o.metas)) ≡ owned (state_at latest o).nodes id
owned_on true o id = owned_shown _ (latest_parts o) id
owned_on false o id = owned_shown _ (committed_parts o) id

pub paths_on : (latest : Bool) (o : Overlays) → filter (passes (λ _ _. true) (side_of latest o.metas)) (fin.keys (side_of latest o.metas)) ≡ fin.keys (state_at latest o).nodes
paths_on true o = paths_shown _ (latest_parts o)
paths_on false o = paths_shown _ (committed_parts o)

pub children_on : (o : Overlays) (path : List ℕ) → filter (passes (λ q _. is_child path q) o.metas.base) (fin.keys o.metas.base) ≡ children (committed_state o).nodes path
children_on o path = children_shown _ (committed_parts o) path
