-- Each operation keeps the places of the nodes: whatever is there has a parent that may have children.
use Rattle.std.proofs.Common.{◌≡◌, ℕ, Bool, true, false, not, ◌&&◌, List, [], Option, Some, None, refl, sym, ap, subst, ◌∙◌, true≢false}
use Rattle.std.specs.Prelude.{ℤ, unwrap_or}
use Rattle.std.specs.Str.{bytes_eq}
use Rattle.std.specs.FinMap as map
use Rattle.std.proofs.lemmas.Slice.Eq.{bytes_eq-Decides}
use Rattle.kp_model.specs.declared.node.Acl.{Acl}
use Rattle.kp_model.specs.declared.node.Node.{Node}
use Rattle.kp_model.specs.declared.command.Op.{Op}
use Rattle.kp_model.specs.declared.command.Op.TheVariants as op
use Rattle.kp_model.specs.Path.{root, parent, is_well_formed}
use Rattle.kp_model.specs.State.{State, Nodes, is_child}
use Rattle.kp_model.specs.Fixed.{fixed}
use Rattle.kp_model.specs.Step.{Outcome, unless, owner_of, new_node, with_child, without_child, with_data, changed, made_path, grown, created, shrunk, deleted, set, act_on}
use Rattle.kp_model.specs.Good.{IsPersistent, HasPlace}
use Rattle.kp_model.proofs.Maps.{same_value, each_inserted, each_removed, finds_inserted, finds_removed}
use Rattle.kp_model.proofs.GoodNodes.{MayCreate, MayDelete, creation_facts, deletion_facts, parent_stays, free_changed, childless_changed}
use Rattle.kp_model.proofs.GoodParts.{HasNoChild}
use Rattle.kp_act.specs.Looks.{HavePlaces}
use Rattle.kp_cells.proofs.Paths.{path_total, path_same}

-- ---- a node is set, or taken away

place_inserted : (m : Nodes) (k : List ℕ) (v : Node) (p : List ℕ)
    → ((x : Node) → map.get m k ≡ Some x → IsPersistent x → IsPersistent v) → HasPlace m p → HasPlace (map.insert m k v) p
place_inserted m k v p upkeep place deep =
    let h = place deep in
    (h.0, finds_inserted path_total path_same IsPersistent m k v (parent p) upkeep h.1)

places_inserted : (m : Nodes) (k : List ℕ) (v : Node)
    → ((x : Node) → map.get m k ≡ Some x → IsPersistent x → IsPersistent v) → HasPlace m k → HavePlaces m → HavePlaces (map.insert m k v)
places_inserted m k v upkeep place places =
    each_inserted path_total path_same (λ p _. HasPlace (map.insert m k v) p) m k v
    (place_inserted m k v k upkeep place) (λ p n found. place_inserted m k v p upkeep (places p n found))

-- the parent of a node that is no child is another path
other_parent : (k q : List ℕ) → is_child k q ≡ false → bytes_eq q root ≡ false → parent q ≡ k → ⊥
unfolding is_child
other_parent k q none deep e = true≢false (sym ((bytes_eq-Decides (parent q) k).1 e) ∙ sym (ap (λ b. not b && bytes_eq (parent q) k) deep) ∙ none)

place_removed : (m : Nodes) (k q : List ℕ) → is_child k q ≡ false → HasPlace m q → HasPlace (map.remove m k) q
place_removed m k q none place deep =
    let h = place deep in
    (h.0, finds_removed path_total path_same IsPersistent m k (parent q) (other_parent k q none deep) h.1)

places_removed : (m : Nodes) (k : List ℕ) → HasNoChild m k → HavePlaces m → HavePlaces (map.remove m k)
places_removed m k none places =
    each_removed path_total path_same (λ p _. HasPlace (map.remove m k) p) m k (λ p n found. place_removed m k p (none p n found) (places p n found))

-- a node is changed that keeps its owner
places_changed : (m : Nodes) (f : Node → Node) (p : List ℕ) (o : Option Node) → map.get m p ≡ o → ((n : Node) → (f n).owner ≡ n.owner) → HavePlaces m → HavePlaces (changed f p o m)
places_changed m f p None found owner places = places
places_changed m f p (Some n) found owner places =
    places_inserted m p (f n) (λ x there h. owner n ∙ subst IsPersistent (same_value x n (sym there ∙ found)) h) (places p n found) places

-- ---- operations

-- where an operation fails, the state stays
unless_places : (e : Option ℤ) (s : State) (o : Outcome) → HavePlaces s.nodes → (e ≡ None → HavePlaces o.state.nodes) → HavePlaces (unless e s o).state.nodes
unless_places None s o places done = done refl
unless_places (Some e) s o places done = places

-- ---- Create

created_places : (s : State) (i t : ℕ) (path bytes : List ℕ) (acl : List Acl) (owner : ℕ) (with_stat : Bool) → MayCreate s.nodes path → HavePlaces s.nodes → HavePlaces (created s i t path bytes acl owner with_stat).state.nodes
unfolding created grown
created_places s i t path bytes acl owner with_stat may places =
    places_inserted (changed (with_child i) (parent path) (map.get s.nodes (parent path)) s.nodes) path (new_node i t bytes acl owner)
    (λ x there _. absurd (free_changed (with_child i) (parent path) path s.nodes _ refl may.absent path x there refl))
    (λ _. (may.formed, parent_stays i (parent path) s.nodes _ may.parent_there.0 may.parent_there.1 may.parent_there.2))
    (places_changed s.nodes (with_child i) (parent path) _ refl (λ _. refl) places)

-- ---- Delete

deleted_places : (s : State) (i : ℕ) (path : List ℕ) → HasNoChild s.nodes path → HavePlaces s.nodes → HavePlaces (deleted s i path).state.nodes
unfolding deleted shrunk
deleted_places s i path none places =
    places_removed (changed (without_child i) (parent path) (map.get s.nodes (parent path)) s.nodes) path
    (childless_changed (without_child i) (parent path) path s.nodes _ refl none)
    (places_changed s.nodes (without_child i) (parent path) _ refl (λ _. refl) places)

-- ---- SetData

set_places : (s : State) (i t : ℕ) (path bytes : List ℕ) → HavePlaces s.nodes → HavePlaces (set s i t path bytes).state.nodes
unfolding set
set_places s i t path bytes places = places_changed s.nodes (with_data i t bytes) path _ refl (λ _. refl) places

-- ---- operations

pub act_on_places : (s : State) (session : ℕ) (ids : List (List ℕ)) (i t : ℕ) (o : Op) → HavePlaces s.nodes → HavePlaces (act_on s session ids i t o).state.nodes
act_on_places s session ids i t (op.Create path bytes acl flags with_stat) places =
    unless_places _ s _ places (λ e. created_places s i t (made_path s.nodes path flags) bytes (unwrap_or (fixed ids acl) []) (owner_of session flags) with_stat (creation_facts s.nodes ids (made_path s.nodes path flags) flags acl e) places)
act_on_places s session ids i t (op.Delete path version) places = unless_places _ s _ places (λ e. deleted_places s i path (deletion_facts s.nodes ids path version e).childless places)
act_on_places s session ids i t (op.SetData path bytes version) places = unless_places _ s _ places (λ _. set_places s i t path bytes places)
act_on_places s session ids i t (op.Check path version) places = unless_places _ s _ places (λ _. places)
