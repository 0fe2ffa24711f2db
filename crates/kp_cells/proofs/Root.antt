-- The parts of the empty state, and the cells of the empty tree.
use Rattle.std.proofs.Common.{◌≡◌, ℕ, Bool, true, false, not, cond, List, [], ◌∷◌, length, Option, Some, None, refl, ap, sym, subst, ◌∙◌, arith}
use Rattle.std.specs.Prelude.{◌==◌, map, unwrap_or, Result, Ok, Err, IfOk}
use Rattle.std.specs.List.{filter}
use Rattle.std.specs.Option.{option_map}
use Rattle.std.specs.Str.{bytes_eq}
use Rattle.std.specs.Ordering.{eq_by_cmp, is_eq}
use Rattle.std.specs.Cmp.{nat_cmp_total}
use Rattle.std.proofs.lemmas.Cmp.{tied_itself}
use Rattle.std.specs.FinMap as map
use Rattle.std.specs.FinMap.{put}
use Rattle.kp_model.specs.declared.node.Node.{Node}
use Rattle.kp_model.specs.Good.{IsSound}
use Rattle.kp_model.specs.Path.{root}
use Rattle.kp_model.specs.Poured.{node_of}
use Rattle.kp_model.specs.State.{Nodes, path_cmp, blank_node, open_acl, children, is_child, stat, meta_of, empty}
use Rattle.kp_model.proofs.GoodEmpty.{empty_sound}
use Rattle.kp_cells.specs.Mapped.{mapped, kept, chosen}
use Rattle.kp_cells.specs.Parts.{parts_of, whole, FitTogether}
use Rattle.kp_cells.specs.Overlays.{Overlays, root_parts, next_in, latest_parts, latest_state, settled, all_begun}
use Rattle.kp_cells.proofs.Maps.{tied, passing, picked, get-mapped, get-kept, chosen-none}
use Rattle.kp_cells.proofs.Paths.{path_total, path_same}

-- the root alone
abbrev alone : Nodes
alone = map.insert map.empty root blank_node

nothing : {A : Type 0} (xs : List A) → length xs ≡ 0 → xs ≡ []
nothing [] h = refl
nothing (x ∷ xs) h = absurd (omega (arith, h))

no_entries : {X : Type 0} → map.entries (map.empty {X = X} {R = path_cmp}) ≡ []
no_entries {X} = nothing _ (sym (map.len-entries map.empty) ∙ map.len-empty path_cmp X)

pub one_entry : {X : Type 0} (v : X) → map.entries (map.insert (map.empty {R = path_cmp}) root v) ≡ (root, v) ∷ []
one_entry v = map.entries-insert path_total map.empty root v ∙ ap (put path_cmp root v) no_entries

one_of : {X : Type 0} (v : X) → map.from_sorted {R = path_cmp} ((root, v) ∷ []) ≡ map.insert map.empty root v
one_of v = map.same_entries_map _ _ (map.entries-from_sorted path_cmp ((root, v) ∷ []) tt ∙ sym (one_entry v))

mapped_one : {X Y : Type 0} (f : List ℕ → X → Y) (v : X) → mapped f (map.insert (map.empty {R = path_cmp}) root v) ≡ map.insert map.empty root (f root v)
unfolding mapped
mapped_one f v = ap (λ es. map.from_sorted (map (λ e. (e.0, f e.0 e.1)) es)) (one_entry v) ∙ one_of (f root v)

at_root : {X : Type 0} (v : X) (q : List ℕ) → map.get (map.insert (map.empty {R = path_cmp}) root v) q ≡ cond (eq_by_cmp path_cmp q root) (Some v) None
at_root v q = map.get-insert path_total map.empty root v q ∙ ap (cond (eq_by_cmp path_cmp q root) (Some v)) (map.get-empty path_cmp q)

there : {X : Type 0} (v : X) → map.get (map.insert (map.empty {R = path_cmp}) root v) root ≡ Some v
there v = at_root v root ∙ ap (λ b. cond b (Some v) None) (ap is_eq (tied_itself path_total root))

childless : length (children alone root) ≡ 0
unfolding children is_child
childless = ap (λ es. length (filter (is_child root) (map (λ e. e.0) es))) (one_entry blank_node)

shown_alone : stat alone root blank_node ≡ meta_of 0 blank_node
unfolding stat
shown_alone = ap (λ n. meta_of n blank_node) childless

unowned : (b : Bool) → option_map (λ (n : Node). n.owner) (passing (λ (n : Node). not (n.owner == 0)) (cond b (Some blank_node) None)) ≡ None
unowned true = refl
unowned false = refl

no_owners : mapped (λ _ (n : Node). n.owner) (kept (λ _ (n : Node). not (n.owner == 0)) alone) ≡ map.empty
no_owners = map.same_map path_total path_same _ _ (λ q.
    get-mapped path_total path_same (λ _ (n : Node). n.owner) (kept (λ _ (n : Node). not (n.owner == 0)) alone) q
    ∙ ap (option_map (λ (n : Node). n.owner)) (get-kept path_total path_same (λ _ (n : Node). not (n.owner == 0)) alone q ∙ ap (passing (λ (n : Node). not (n.owner == 0))) (at_root blank_node q))
    ∙ unowned (eq_by_cmp path_cmp q root)
    ∙ sym (map.get-empty path_cmp q))

no_child : (q : List ℕ) (b : Bool) → (b ≡ true → q ≡ root) → picked (λ (_ : Node). not (bytes_eq q root)) (cond b (Some blank_node) None) ≡ None
no_child q true e = ap (λ z. picked (λ (_ : Node). not (bytes_eq z root)) (Some blank_node)) (e refl)
no_child q false e = refl

no_children : chosen (λ q (_ : Node). not (bytes_eq q root)) alone ≡ map.empty
no_children = chosen-none path_total path_same (λ q (_ : Node). not (bytes_eq q root)) alone (λ q.
    ap (picked (λ (_ : Node). not (bytes_eq q root))) (at_root blank_node q) ∙ no_child q (eq_by_cmp path_cmp q root) (tied path_same q root))

next_one : next_in (map.insert map.empty 0 1) ≡ 1
next_one = ap (λ (o : Option ℕ). unwrap_or o 1) (map.get-insert nat_cmp_total map.empty 0 1 0)

-- the parts of the root alone are those of the empty state
pub parts_empty : (next : ℕ) → next ≡ next_in (map.insert map.empty 0 1) → record root_parts { next = next } ≡ parts_of empty
unfolding parts_of empty
parts_empty next e = sym (λ i. record {
  metas = (mapped_one (stat alone) blank_node ∙ ap (map.insert map.empty root) shown_alone) i;
  contents = mapped_one (λ _ (n : Node). n.bytes) blank_node i;
  acls = mapped_one (λ _ (n : Node). n.acl) blank_node i;
  children = no_children i;
  owners = no_owners i;
  sessions = map.empty;
  next = sym (e ∙ next_one) i;
})

-- these parts, put together
whole_empty : whole 0 (latest_parts (settled 0 root_parts)) ≡ empty
unfolding whole empty
whole_empty = λ i. record {
  nodes = (mapped_one (λ q m. node_of (unwrap_or (map.get (map.insert (map.empty {R = path_cmp}) root []) q) []) (unwrap_or (map.get (map.insert (map.empty {R = path_cmp}) root open_acl) q) []) m) (meta_of 0 blank_node)
      ∙ (λ j. map.insert map.empty root (node_of (unwrap_or (there [] j) []) (unwrap_or (there open_acl j) []) (meta_of 0 blank_node)))) i;
  sessions = map.empty;
  next = next_one i;
  applied = 0;
}

-- the cells of the empty tree stand for it
pub settled_fits : (o : Overlays) → o ≡ settled 0 root_parts → FitTogether (latest_parts o)
settled_fits o e = subst (λ z. FitTogether (latest_parts z)) (sym e) (parts_empty _ refl ∙ ap parts_of (sym whole_empty))

pub settled_sound : (o : Overlays) → o ≡ settled 0 root_parts → IsSound (latest_state o)
settled_sound o e = subst (λ z. IsSound (latest_state z)) (sym e) (subst IsSound (sym whole_empty) empty_sound)

pub settled_next : (o : Overlays) → o ≡ settled 0 root_parts → (latest_state o).applied ≡ 0
unfolding whole
settled_next o e = ap (λ (z : Overlays). (latest_state z).applied) e

-- and so with a layer open
pub begun_fits : (o : Overlays) → o ≡ all_begun (settled 0 root_parts) → FitTogether (latest_parts o)
begun_fits o e = subst (λ z. FitTogether (latest_parts z)) (sym e) (settled_fits (settled 0 root_parts) refl)

pub begun_sound : (o : Overlays) → o ≡ all_begun (settled 0 root_parts) → IsSound (latest_state o)
begun_sound o e = subst (λ z. IsSound (latest_state z)) (sym e) (settled_sound (settled 0 root_parts) refl)

pub begun_next : (o : Overlays) → o ≡ all_begun (settled 0 root_parts) → (latest_state o).applied ≡ 0
unfolding whole
begun_next o e = ap (λ (z : Overlays). (latest_state z).applied) e

-- what holds of the cells of the empty tree
pub of_settled : {E : Type 0} {P : Overlays → Type 0} (r : Result Overlays E) → ((o : Overlays) → o ≡ settled 0 root_parts → P o) → IfOk r (λ o. o ≡ settled 0 root_parts) → IfOk r P
of_settled (Ok o) h e = h o e
of_settled (Err f) h e = tt
