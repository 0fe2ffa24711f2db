-- The owners of nodes after a change.
use Rattle.std.proofs.Common.{◌≡◌, ℕ, Bool, true, false, not, cond, List, Option, Some, None, refl, ap, sym, ◌∙◌}
use Rattle.std.specs.Prelude.{◌==◌}
use Rattle.std.specs.Option.{option_map}
use Rattle.std.specs.Ordering.{eq_by_cmp}
use Rattle.std.specs.FinMap as map
use Rattle.std.specs.FinMap.{FinMap}
use Rattle.kp_model.specs.declared.node.Node.{Node}
use Rattle.kp_model.specs.State.{Nodes, path_cmp}
use Rattle.kp_cells.specs.Mapped.{mapped, kept}
use Rattle.kp_cells.proofs.Maps.{tied, passing, get-mapped, get-kept}
use Rattle.kp_cells.proofs.Paths.{path_total, path_same}

-- the owner of what is at a path, if it has one
abbrev pub owner_in : Option Node → Option ℕ
owner_in None = None
owner_in (Some n) = cond (not (n.owner == 0)) (Some n.owner) None

abbrev pub owners_of : Nodes → map.FinMap path_cmp ℕ
owners_of nodes = mapped (λ _ (n : Node). n.owner) (kept (λ _ (n : Node). not (n.owner == 0)) nodes)

only_if : (n : Node) (b : Bool) → option_map (λ (x : Node). x.owner) (cond b (Some n) None) ≡ cond b (Some n.owner) None
only_if n true = refl
only_if n false = refl

seen : (r : Option Node) → option_map (λ (x : Node). x.owner) (passing (λ (n : Node). not (n.owner == 0)) r) ≡ owner_in r
seen None = refl
seen (Some n) = only_if n (not (n.owner == 0))

pub get-owners : (nodes : Nodes) (q : List ℕ) → map.get (owners_of nodes) q ≡ owner_in (map.get nodes q)
get-owners nodes q =
    get-mapped path_total path_same (λ _ (n : Node). n.owner) (kept (λ _ (n : Node). not (n.owner == 0)) nodes) q
    ∙ ap (option_map (λ (x : Node). x.owner)) (get-kept path_total path_same (λ _ (n : Node). not (n.owner == 0)) nodes q)
    ∙ seen (map.get nodes q)

-- where a node is seen as what was there before
pub owners-over : (nodes : Nodes) (k : List ℕ) (v : Node) → owner_in (Some v) ≡ owner_in (map.get nodes k) → owners_of (map.insert nodes k v) ≡ owners_of nodes
owners-over nodes k v same = map.same_map path_total path_same _ _ (λ q.
    get-owners (map.insert nodes k v) q
    ∙ ap owner_in (map.get-insert path_total nodes k v q)
    ∙ over q (eq_by_cmp path_cmp q k) (tied path_same q k)
    ∙ sym (get-owners nodes q)) where
      over : (q : List ℕ) (b : Bool) → (b ≡ true → q ≡ k) → owner_in (cond b (Some v) (map.get nodes q)) ≡ owner_in (map.get nodes q)
      over q true e = same ∙ ap (λ z. owner_in (map.get nodes z)) (sym (e refl))
      over q false e = refl

-- a node that has an owner is set
pub owners-insert : (nodes : Nodes) (k : List ℕ) (v : Node) → (v.owner == 0) ≡ false → owners_of (map.insert nodes k v) ≡ map.insert (owners_of nodes) k v.owner
owners-insert nodes k v has = map.same_map path_total path_same _ _ (λ q.
    get-owners (map.insert nodes k v) q
    ∙ ap owner_in (map.get-insert path_total nodes k v q)
    ∙ set (eq_by_cmp path_cmp q k) (map.get nodes q)
    ∙ sym (map.get-insert path_total (owners_of nodes) k v.owner q ∙ ap (cond (eq_by_cmp path_cmp q k) (Some v.owner)) (get-owners nodes q))) where
      set : (b : Bool) (r : Option Node) → owner_in (cond b (Some v) r) ≡ cond b (Some v.owner) (owner_in r)
      set true r = ap (λ c. cond (not c) (Some v.owner) None) has
      set false r = refl

without : (b : Bool) (r : Option Node) → owner_in (cond b None r) ≡ cond b None (owner_in r)
without true r = refl
without false r = refl

pub owners-remove : (nodes : Nodes) (k : List ℕ) → owners_of (map.remove nodes k) ≡ map.remove (owners_of nodes) k
owners-remove nodes k = map.same_map path_total path_same _ _ (λ q.
    get-owners (map.remove nodes k) q
    ∙ ap owner_in (map.get-remove path_total nodes k q)
    ∙ without (eq_by_cmp path_cmp q k) (map.get nodes q)
    ∙ sym (map.get-remove path_total (owners_of nodes) k q ∙ ap (cond (eq_by_cmp path_cmp q k) None) (get-owners nodes q)))

-- nothing changes where nothing is taken out
pub remove-absent : {X : Type 0} (m : map.FinMap path_cmp X) (k : List ℕ) → map.get m k ≡ None → map.remove m k ≡ m
remove-absent {X = X} m k none = map.same_map path_total path_same _ _ (λ q. map.get-remove path_total m k q ∙ same q (eq_by_cmp path_cmp q k) (tied path_same q k)) where
  same : (q : List ℕ) (b : Bool) → (b ≡ true → q ≡ k) → cond b None (map.get m q) ≡ map.get m q
  same q true e = sym (ap (map.get m) (e refl) ∙ none)
  same q false e = refl
