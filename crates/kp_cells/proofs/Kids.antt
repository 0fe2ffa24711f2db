-- The children of a path as a set, and how many they are after a change.
use Rattle.std.proofs.Common.{◌≡◌, ℕ, ◌+◌, ◌-◌, Bool, true, false, cond, List, length, Option, Some, None, IsSome, is_some, refl, ap, sym, ◌∙◌}
use Rattle.std.specs.List.{filter}
use Rattle.std.specs.Str.{bytes_eq}
use Rattle.std.specs.Ordering.{eq_by_cmp}
use Rattle.std.specs.FinMap as map
use Rattle.std.proofs.lemmas.List.{length-map}
use Rattle.kp_model.specs.declared.node.Node.{Node}
use Rattle.kp_model.specs.Path.{root, parent}
use Rattle.kp_model.specs.State.{Nodes, is_child, children, path_cmp}
use Rattle.kp_cells.specs.Mapped.{chosen}
use Rattle.kp_cells.specs.Parts.{PathSet}
use Rattle.kp_cells.proofs.Listed.{keys-chosen}
use Rattle.kp_cells.proofs.Maps.{no, picked, get-chosen, chosen-insert, chosen-over, chosen-remove, chosen-past, chosen-none}
use Rattle.kp_cells.proofs.Paths.{path_total, path_same, child_parent, child_not_root, own_child, no_other_child, not_own_parent}

-- the set of the children of a path
abbrev kids_at : Nodes → List ℕ → PathSet
kids_at nodes p = chosen (λ q _. is_child p q) nodes

counted : (nodes : Nodes) (p : List ℕ) → length (children nodes p) ≡ map.len (kids_at nodes p)
unfolding children
counted nodes p = ap length (sym (keys-chosen path_total path_same (is_child p) nodes)) ∙ length-map (map.entries (kids_at nodes p)) (λ e. e.0) ∙ sym (map.len-entries (kids_at nodes p))

pub const_picked : (b : Bool) (r : Option Node) → b ≡ false → picked (λ _. b) r ≡ None
const_picked true r e = no true e refl
const_picked false None e = refl
const_picked false (Some n) e = refl

kids-over : (nodes : Nodes) (k : List ℕ) (u v : Node) (p : List ℕ) → map.get nodes k ≡ Some u → kids_at (map.insert nodes k v) p ≡ kids_at nodes p
kids-over nodes k u v p there = chosen-over path_total path_same (λ q _. is_child p q) nodes k v (sym (ap (picked (λ _. is_child p k)) there))

kids-beside : (nodes : Nodes) (k : List ℕ) (v : Node) (p : List ℕ) → is_child p k ≡ false → kids_at (map.insert nodes k v) p ≡ kids_at nodes p
kids-beside nodes k v p h = chosen-over path_total path_same (λ q _. is_child p q) nodes k v (const_picked _ (Some v) h ∙ sym (const_picked _ (map.get nodes k) h))

-- each node but the root has its parent
abbrev pub IsRooted : Nodes → Type 0
IsRooted nodes = (q : List ℕ) (n : Node) → map.get nodes q ≡ Some n → bytes_eq q root ≡ false → IsSome (map.get nodes (parent q))

kids-none : (nodes : Nodes) (p : List ℕ) → IsRooted nodes → map.get nodes p ≡ None → kids_at nodes p ≡ map.empty
kids-none nodes p rooted h = chosen-none path_total path_same (λ q _. is_child p q) nodes (λ q. none q (map.get nodes q) refl (is_child p q) refl) where
  none : (q : List ℕ) (r : Option Node) → map.get nodes q ≡ r → (b : Bool) → is_child p q ≡ b → picked (λ _. b) r ≡ None
  none q None e b c = refl
  none q (Some n) e false c = refl
  none q (Some n) e true c =
      let up : IsSome (map.get nodes (parent q)) = rooted q n e (child_not_root p q c) in
      no false refl (sym (ap is_some (ap (map.get nodes) (child_parent p q c) ∙ h)) ∙ up)

get-kids_at : (nodes : Nodes) (p q : List ℕ) → map.get (kids_at nodes p) q ≡ picked (λ _. is_child p q) (map.get nodes q)
get-kids_at nodes p q = get-chosen path_total path_same (λ q _. is_child p q) nodes q

-- the counts, where a node that is there is changed
pub count-over : (nodes : Nodes) (k : List ℕ) (u v : Node) (p : List ℕ) → map.get nodes k ≡ Some u → length (children (map.insert nodes k v) p) ≡ length (children nodes p)
count-over nodes k u v p there = counted (map.insert nodes k v) p ∙ ap map.len (kids-over nodes k u v p there) ∙ sym (counted nodes p)

module _ (nodes : Nodes) (path : List ℕ) (u v w : Node) (has_parent : map.get nodes (parent path) ≡ Some u) (not_root : bytes_eq path root ≡ false) where
  abbrev with_up : Nodes
  with_up = map.insert nodes (parent path) v

  -- where a node is made
  pub count_up-made : map.get nodes path ≡ None → length (children (map.insert with_up path w) (parent path)) ≡ length (children nodes (parent path)) + 1
  count_up-made free =
      let k : PathSet = kids_at nodes (parent path) in
      counted (map.insert with_up path w) (parent path)
      ∙ ap map.len (chosen-insert path_total path_same (λ q _. is_child (parent path) q) with_up path w (own_child path not_root) ∙ ap (λ z. map.insert z path tt) (kids-over nodes (parent path) u v (parent path) has_parent))
      ∙ map.len-insert path_total k path tt
      ∙ ap (λ r. cond (is_some r) (map.len k) (map.len k + 1)) (get-kids_at nodes (parent path) path ∙ ap (picked (λ _. is_child (parent path) path)) free)
      ∙ ap (λ n. n + 1) (sym (counted nodes (parent path)))

  pub count_path-made : IsRooted nodes → map.get nodes path ≡ None → length (children (map.insert with_up path w) path) ≡ 0
  count_path-made rooted free =
      counted (map.insert with_up path w) path
      ∙ ap map.len (kids-beside with_up path w path (not_own_parent path not_root) ∙ kids-over nodes (parent path) u v path has_parent ∙ kids-none nodes path rooted free)
      ∙ map.len-empty path_cmp (Unit {0})

  pub count_else-made : (q : List ℕ) → eq_by_cmp path_cmp q (parent path) ≡ false → length (children (map.insert with_up path w) q) ≡ length (children nodes q)
  count_else-made q h =
      counted (map.insert with_up path w) q
      ∙ ap map.len (kids-beside with_up path w q (no_other_child q path h) ∙ kids-over nodes (parent path) u v q has_parent)
      ∙ sym (counted nodes q)

  -- where a node goes
  pub count_up-gone : (n : Node) → map.get nodes path ≡ Some n → length (children (map.remove with_up path) (parent path)) ≡ length (children nodes (parent path)) - 1
  count_up-gone n there =
      let k : PathSet = kids_at nodes (parent path) in
      counted (map.remove with_up path) (parent path)
      ∙ ap map.len (chosen-remove path_total path_same (λ q _. is_child (parent path) q) with_up path ∙ ap (λ z. map.remove z path) (kids-over nodes (parent path) u v (parent path) has_parent))
      ∙ map.len-remove path_total k path
      ∙ ap (λ r. cond (is_some r) (map.len k - 1) (map.len k)) (get-kids_at nodes (parent path) path ∙ ap (picked (λ _. is_child (parent path) path)) there ∙ ap (λ b. cond b (Some tt) None) (own_child path not_root))
      ∙ ap (λ n. n - 1) (sym (counted nodes (parent path)))

  pub count_else-gone : (q : List ℕ) → eq_by_cmp path_cmp q (parent path) ≡ false → length (children (map.remove with_up path) q) ≡ length (children nodes q)
  count_else-gone q h =
      counted (map.remove with_up path) q
      ∙ ap map.len (chosen-past path_total path_same (λ k _. is_child q k) with_up path (const_picked _ (map.get with_up path) (no_other_child q path h)) ∙ kids-over nodes (parent path) u v q has_parent)
      ∙ sym (counted nodes q)

-- the parent's count, where a node is set at a path that was free
pub count-made : (nodes : Nodes) (k : List ℕ) (v : Node) → bytes_eq k root ≡ false → map.get nodes k ≡ None → length (children (map.insert nodes k v) (parent k)) ≡ length (children nodes (parent k)) + 1
count-made nodes k v not_root free =
    counted (map.insert nodes k v) (parent k)
    ∙ ap map.len (chosen-insert path_total path_same (λ q _. is_child (parent k) q) nodes k v (own_child k not_root))
    ∙ map.len-insert path_total (kids_at nodes (parent k)) k tt
    ∙ ap (λ r. cond (is_some r) (map.len (kids_at nodes (parent k))) (map.len (kids_at nodes (parent k)) + 1)) (get-kids_at nodes (parent k) k ∙ ap (picked (λ _. is_child (parent k) k)) free)
    ∙ ap (λ n. n + 1) (sym (counted nodes (parent k)))

-- the count of any path, where a node is set at the root
pub count-root : (nodes : Nodes) (k : List ℕ) (v : Node) (p : List ℕ) → is_child p k ≡ false → length (children (map.insert nodes k v) p) ≡ length (children nodes p)
count-root nodes k v p h = counted (map.insert nodes k v) p ∙ ap map.len (kids-beside nodes k v p h) ∙ sym (counted nodes p)

-- the counts of all paths but the parent's, where a node is set or taken away
pub count-beside : (nodes : Nodes) (k : List ℕ) (v : Node) (p : List ℕ) → eq_by_cmp path_cmp p (parent k) ≡ false → length (children (map.insert nodes k v) p) ≡ length (children nodes p)
count-beside nodes k v p h = counted (map.insert nodes k v) p ∙ ap map.len (kids-beside nodes k v p (no_other_child p k h)) ∙ sym (counted nodes p)

pub count-without : (nodes : Nodes) (k p : List ℕ) → eq_by_cmp path_cmp p (parent k) ≡ false → length (children (map.remove nodes k) p) ≡ length (children nodes p)
count-without nodes k p h =
    counted (map.remove nodes k) p
    ∙ ap map.len (chosen-past path_total path_same (λ q _. is_child p q) nodes k (const_picked _ (map.get nodes k) (no_other_child p k h)))
    ∙ sym (counted nodes p)
