-- The parts of the state after a command, from what was seen before it.
use Rattle.std.proofs.Common.{◌≡◌, ℕ, ◌+◌, ◌-◌, Bool, true, false, not, cond, List, length, Some, None, refl, ap, sym, ◌∙◌}
use Rattle.std.specs.Prelude.{◌==◌}
use Rattle.std.specs.Str.{bytes_eq}
use Rattle.std.specs.FinMap as map
use Rattle.kp_model.specs.declared.node.Node.{Node}
use Rattle.kp_model.specs.Path.{root, parent}
use Rattle.kp_model.specs.State.{State, Nodes, children, meta_of, stat}
use Rattle.kp_cells.specs.Mapped.{mapped, chosen}
use Rattle.kp_cells.specs.Parts.{parts_of}
use Rattle.kp_cells.proofs.Maps.{picked, mapped-insert, mapped-remove, mapped-over, chosen-insert, chosen-over, chosen-remove}
use Rattle.kp_act.specs.Effects.{effected, owned_by, disowned}
use Rattle.kp_act.specs.declared.plan.Effect.TheVariants as effect
use Rattle.kp_cells.proofs.Paths.{path_total, path_same, own_parent_apart}
use Rattle.kp_cells.proofs.Kids.{IsRooted, count-over, count_up-made, count_path-made, count_else-made, count_up-gone, count_else-gone}
use Rattle.kp_act.proofs.Owners.{owner_in, owners_of, get-owners, owners-over, owners-insert, owners-remove, remove-absent}

-- what is shown of a node depends on the number of its children alone
stat-same : (a b : Nodes) (p : List ℕ) (n : Node) → length (children a p) ≡ length (children b p) → stat a p n ≡ stat b p n
unfolding stat
stat-same a b p n e = ap (λ c. meta_of c n) e

pub stat-count : (nodes : Nodes) (p : List ℕ) (n : Node) (c : ℕ) → length (children nodes p) ≡ c → stat nodes p n ≡ meta_of c n
unfolding stat
stat-count nodes p n c e = ap (λ c. meta_of c n) e

-- all paths but the root
abbrev apart_from_root : List ℕ → Node → Bool
apart_from_root q n = not (bytes_eq q root)

kept_up : (nodes : Nodes) (k : List ℕ) (u v : Node) → map.get nodes k ≡ Some u → chosen apart_from_root (map.insert nodes k v) ≡ chosen apart_from_root nodes
kept_up nodes k u v there = chosen-over path_total path_same apart_from_root nodes k v (sym (ap (picked (apart_from_root k)) there))

owner_up : (nodes : Nodes) (k : List ℕ) (u v : Node) → map.get nodes k ≡ Some u → v.owner ≡ u.owner → owners_of (map.insert nodes k v) ≡ owners_of nodes
owner_up nodes k u v there same = owners-over nodes k v (ap (λ o. cond (not (o == 0)) (Some o) None) same ∙ sym (ap owner_in there))

module _ (s : State) (path : List ℕ) (u v : Node) (has_parent : map.get s.nodes (parent path) ≡ Some u) (not_root : bytes_eq path root ≡ false) (same_bytes : v.bytes ≡ u.bytes) (same_acl : v.acl ≡ u.acl) (same_owner : v.owner ≡ u.owner) where
  abbrev up : Nodes
  up = map.insert s.nodes (parent path) v

  -- a part that the parent keeps
  part_up : {Y : Type 0} (f : Node → Y) → f v ≡ f u → mapped (λ _ (n : Node). f n) up ≡ mapped (λ _ (n : Node). f n) s.nodes
  part_up f same = mapped-over path_total path_same (λ _ (n : Node). f n) (λ _ (n : Node). f n) s.nodes (parent path) u v has_parent same (λ _ _ _. refl)

  -- a node is made
  module _ (w : Node) (rooted : IsRooted s.nodes) (free : map.get s.nodes path ≡ None) where
    abbrev made : Nodes
    made = map.insert up path w

    metas-made : mapped (stat made) made ≡ map.insert (map.insert (mapped (stat s.nodes) s.nodes) (parent path) (meta_of (length (children s.nodes (parent path)) + 1) v)) path (meta_of 0 w)
    metas-made =
        mapped-insert path_total path_same (stat made) (stat made) up path w (λ _ _ _. refl)
        ∙ ap (λ z. map.insert z path (stat made path w)) (mapped-insert path_total path_same (stat s.nodes) (stat made) s.nodes (parent path) v (λ q h x. stat-same made s.nodes q x (count_else-made s.nodes path u v w has_parent not_root q h)))
        ∙ ap (λ c. map.insert (map.insert (mapped (stat s.nodes) s.nodes) (parent path) c) path (stat made path w)) (stat-count made (parent path) v _ (count_up-made s.nodes path u v w has_parent not_root free))
        ∙ ap (map.insert (map.insert (mapped (stat s.nodes) s.nodes) (parent path) (meta_of (length (children s.nodes (parent path)) + 1) v)) path) (stat-count made path w 0 (count_path-made s.nodes path u v w has_parent not_root rooted free))

    part-made : {Y : Type 0} (f : Node → Y) → f v ≡ f u → mapped (λ _ (n : Node). f n) made ≡ map.insert (mapped (λ _ (n : Node). f n) s.nodes) path (f w)
    part-made f same =
        mapped-insert path_total path_same (λ _ (n : Node). f n) (λ _ (n : Node). f n) up path w (λ _ _ _. refl)
        ∙ ap (λ z. map.insert z path (f w)) (part_up f same)

    children-made : chosen apart_from_root made ≡ map.insert (chosen apart_from_root s.nodes) path tt
    children-made = chosen-insert path_total path_same apart_from_root up path w (ap not not_root) ∙ ap (λ z. map.insert z path tt) (kept_up s.nodes (parent path) u v has_parent)

    still_free : map.get up path ≡ None
    still_free = map.get-insert path_total s.nodes (parent path) v path ∙ ap (λ b. cond b (Some v) (map.get s.nodes path)) (own_parent_apart path not_root) ∙ free

    owners-set : (b : Bool) → (w.owner == 0) ≡ b → owners_of made ≡ cond b (owners_of up) (map.insert (owners_of up) path w.owner)
    owners-set true e = owners-over up path w (ap (λ c. cond (not c) (Some w.owner) None) e ∙ sym (ap owner_in still_free))
    owners-set false e = owners-insert up path w e

    owners-made : owners_of made ≡ owned_by (owners_of s.nodes) w.owner path
    owners-made = owners-set (w.owner == 0) refl ∙ ap (λ z. owned_by z w.owner path) (owner_up s.nodes (parent path) u v has_parent same_owner)

    pub parts-made : parts_of (record s { nodes = made }) ≡ effected (parts_of s) (effect.Make path w.bytes w.acl (meta_of 0 w) (meta_of (length (children s.nodes (parent path)) + 1) v))
    unfolding parts_of
    parts-made = λ j. record {
      metas = metas-made j;
      contents = part-made (λ (n : Node). n.bytes) same_bytes j;
      acls = part-made (λ (n : Node). n.acl) same_acl j;
      children = children-made j;
      owners = owners-made j;
      sessions = s.sessions;
      next = s.next;
    }

  -- a node goes
  module _ (n : Node) (there : map.get s.nodes path ≡ Some n) where
    abbrev gone : Nodes
    gone = map.remove up path

    metas-gone : mapped (stat gone) gone ≡ map.remove (map.insert (mapped (stat s.nodes) s.nodes) (parent path) (meta_of (length (children s.nodes (parent path)) - 1) v)) path
    metas-gone =
        mapped-remove path_total path_same (stat gone) (stat gone) up path (λ _ _ _. refl)
        ∙ ap (λ z. map.remove z path) (mapped-insert path_total path_same (stat s.nodes) (stat gone) s.nodes (parent path) v (λ q h x. stat-same gone s.nodes q x (count_else-gone s.nodes path u v v has_parent not_root q h)))
        ∙ ap (λ c. map.remove (map.insert (mapped (stat s.nodes) s.nodes) (parent path) c) path) (stat-count gone (parent path) v _ (count_up-gone s.nodes path u v v has_parent not_root n there))

    part-gone : {Y : Type 0} (f : Node → Y) → f v ≡ f u → mapped (λ _ (n : Node). f n) gone ≡ map.remove (mapped (λ _ (n : Node). f n) s.nodes) path
    part-gone f same = mapped-remove path_total path_same (λ _ (n : Node). f n) (λ _ (n : Node). f n) up path (λ _ _ _. refl) ∙ ap (λ z. map.remove z path) (part_up f same)

    children-gone : chosen apart_from_root gone ≡ map.remove (chosen apart_from_root s.nodes) path
    children-gone = chosen-remove path_total path_same apart_from_root up path ∙ ap (λ z. map.remove z path) (kept_up s.nodes (parent path) u v has_parent)

    disowned-is : (b : Bool) → (n.owner == 0) ≡ b → map.remove (owners_of s.nodes) path ≡ cond b (owners_of s.nodes) (map.remove (owners_of s.nodes) path)
    disowned-is true e = remove-absent (owners_of s.nodes) path (get-owners s.nodes path ∙ ap owner_in there ∙ ap (λ c. cond (not c) (Some n.owner) None) e)
    disowned-is false e = refl

    owners-gone : owners_of gone ≡ disowned (owners_of s.nodes) n.owner path
    owners-gone = owners-remove up path ∙ ap (λ z. map.remove z path) (owner_up s.nodes (parent path) u v has_parent same_owner) ∙ disowned-is (n.owner == 0) refl

    pub parts-gone : parts_of (record s { nodes = gone }) ≡ effected (parts_of s) (effect.Remove path (meta_of (length (children s.nodes (parent path)) - 1) v) n.owner)
    unfolding parts_of
    parts-gone = λ j. record {
      metas = metas-gone j;
      contents = part-gone (λ (n : Node). n.bytes) same_bytes j;
      acls = part-gone (λ (n : Node). n.acl) same_acl j;
      children = children-gone j;
      owners = owners-gone j;
      sessions = s.sessions;
      next = s.next;
    }

-- the data or the list of a node is set
module _ (s : State) (path : List ℕ) (n v : Node) (there : map.get s.nodes path ≡ Some n) where
  abbrev changed : Nodes
  changed = map.insert s.nodes path v

  metas-set : mapped (stat changed) changed ≡ map.insert (mapped (stat s.nodes) s.nodes) path (meta_of (length (children s.nodes path)) v)
  metas-set =
      mapped-insert path_total path_same (stat s.nodes) (stat changed) s.nodes path v (λ q h x. stat-same changed s.nodes q x (count-over s.nodes path n v q there))
      ∙ ap (map.insert (mapped (stat s.nodes) s.nodes) path) (stat-count changed path v _ (count-over s.nodes path n v path there))

  pub parts-set : v.acl ≡ n.acl → v.owner ≡ n.owner → parts_of (record s { nodes = changed }) ≡ effected (parts_of s) (effect.Set path v.bytes (meta_of (length (children s.nodes path)) v))
  unfolding parts_of
  parts-set same_acl same_owner = λ j. record {
    metas = metas-set j;
    contents = mapped-insert path_total path_same (λ _ (n : Node). n.bytes) (λ _ (n : Node). n.bytes) s.nodes path v (λ _ _ _. refl) j;
    acls = mapped-over path_total path_same (λ _ (n : Node). n.acl) (λ _ (n : Node). n.acl) s.nodes path n v there same_acl (λ _ _ _. refl) j;
    children = kept_up s.nodes path n v there j;
    owners = owner_up s.nodes path n v there same_owner j;
    sessions = s.sessions;
    next = s.next;
  }

  pub parts-relisted : v.bytes ≡ n.bytes → v.owner ≡ n.owner → parts_of (record s { nodes = changed }) ≡ effected (parts_of s) (effect.SetAcl path v.acl (meta_of (length (children s.nodes path)) v))
  unfolding parts_of
  parts-relisted same_bytes same_owner = λ j. record {
    metas = metas-set j;
    contents = mapped-over path_total path_same (λ _ (n : Node). n.bytes) (λ _ (n : Node). n.bytes) s.nodes path n v there same_bytes (λ _ _ _. refl) j;
    acls = mapped-insert path_total path_same (λ _ (n : Node). n.acl) (λ _ (n : Node). n.acl) s.nodes path v (λ _ _ _. refl) j;
    children = kept_up s.nodes path n v there j;
    owners = owner_up s.nodes path n v there same_owner j;
    sessions = s.sessions;
    next = s.next;
  }
