-- The end of a session keeps a good state good.
use Rattle.std.proofs.Common.{◌≡◌, ℕ, ◌≤◌, ◌==◌, Bool, true, false, not, ◌||◌, List, [], ◌∷◌, Option, Some, None, is_eq, refl, sym, ap, ◌∙◌, arith, eqb-true}
use Rattle.std.specs.List.{list_any}
use Rattle.std.specs.Str.{bytes_eq}
use Rattle.std.specs.Ordering.{eq_by_cmp}
use Rattle.std.specs.Option.{option_map_or}
use Rattle.std.specs.Cmp.{tied_itself}
use Rattle.std.specs.Cmp.Lexicographic.{nat_list_cmp_total}
use Rattle.std.specs.FinMap as map
use Rattle.std.proofs.lemmas.Slice.Eq.{bytes_eq-Decides}
use Rattle.kp_model.specs.declared.node.Node.{Node}
use Rattle.kp_model.specs.Path.{root, parent}
use Rattle.kp_model.specs.State.{State, Nodes, path_cmp, is_child, is_owned, owned}
use Rattle.kp_model.specs.Step.{changed, without_child, shrunk, shrunk_by, closed}
use Rattle.kp_model.specs.Good.{IsPersistent, IsGood}
use Rattle.kp_model.proofs.Maps.{Each, each_inserted, left_there, among_passing}
use Rattle.kp_model.proofs.GoodParts.{path_cmp-IsAntisymmetric, HasNoChild, session_removed_good}
use Rattle.kp_model.proofs.GoodLists.{both}
use Rattle.kp_model.proofs.GoodNodes.{shrunk_good}

-- ---- the nodes that a session owns

-- a session owns the nodes at these paths, and no other
abbrev OwnsJust : Nodes → ℕ → List (List ℕ) → Type 0
OwnsJust nodes id ps = Each (λ q n. (n.owner == id) ≡ list_any (eq_by_cmp path_cmp q) ps) nodes

owns_owned : (nodes : Nodes) (id : ℕ) → OwnsJust nodes id (owned nodes id)
unfolding owned
owns_owned nodes id q n found =
    sym (among_passing nat_list_cmp_total path_cmp-IsAntisymmetric (is_owned nodes id) nodes q n found ∙ ap (λ o. option_map_or (λ (m : Node). m.owner == id) o false) found)

-- a changed node that keeps its owner is owned as before
owns_changed : (f : Node → Node) (p : List ℕ) (nodes : Nodes) (o : Option Node) (id : ℕ) (ps : List (List ℕ)) → map.get nodes p ≡ o
    → ((n : Node) → (f n).owner ≡ n.owner) → OwnsJust nodes id ps → OwnsJust (changed f p o nodes) id ps
owns_changed f p nodes None id ps found owner just = just
owns_changed f p nodes (Some n) id ps found owner just =
    each_inserted nat_list_cmp_total path_cmp-IsAntisymmetric (λ q m. (m.owner == id) ≡ list_any (eq_by_cmp path_cmp q) ps) nodes p (f n)
    (ap (λ x. x == id) (owner n) ∙ just p n found) just

-- once the first is removed, the session owns the others
owns_rest : (nodes : Nodes) (id : ℕ) (p : List ℕ) (ps : List (List ℕ)) → OwnsJust nodes id (p ∷ ps) → OwnsJust (map.remove nodes p) id ps
owns_rest nodes id p ps just q n found =
    let was = left_there nat_list_cmp_total path_cmp-IsAntisymmetric nodes p q n found in
    just q n was.1 ∙ ap (λ b. b || list_any (eq_by_cmp path_cmp q) ps) was.0

owns_shrunk : (nodes : Nodes) (id i : ℕ) (p : List ℕ) (ps : List (List ℕ)) → OwnsJust nodes id (p ∷ ps) → OwnsJust (shrunk nodes i p) id ps
unfolding shrunk
owns_shrunk nodes id i p ps just =
    owns_rest (changed (without_child i) (parent p) (map.get nodes (parent p)) nodes) id p ps (owns_changed (without_child i) (parent p) nodes _ id (p ∷ ps) refl (λ _. refl) just)

owner_of_first : (nodes : Nodes) (id : ℕ) (p : List ℕ) (ps : List (List ℕ)) → OwnsJust nodes id (p ∷ ps) → (n : Node) → map.get nodes p ≡ Some n → n.owner ≡ id
owner_of_first nodes id p ps just n found =
    eqb-true n.owner id (just p n found ∙ ap (λ r. is_eq r || list_any (eq_by_cmp path_cmp p) ps) (tied_itself nat_list_cmp_total p))

-- ---- a node with an owner is not the root, and has no child

holds_not : (b : Bool) → not b ≡ true → b ≡ false
holds_not true e = sym e
holds_not false e = refl

must_fail : (b : Bool) → (b ≡ true → ⊥) → b ≡ false
must_fail true h = absurd (h refl)
must_fail false h = refl

-- no node with an owner is persistent
not_persistent : (id : ℕ) (n : Node) → 1 ≤ id → n.owner ≡ id → IsPersistent n → ⊥
not_persistent id n some mine none = omega (arith, some, mine, none)

module _ (s : State) (id : ℕ) (p : List ℕ) (some : 1 ≤ id) (mine : (n : Node) → map.get s.nodes p ≡ Some n → n.owner ≡ id) (good : IsGood s) where
  is_deep : bytes_eq p root ≡ false
  is_deep = must_fail (bytes_eq p root) (λ e.
      let r = good.root_there in
      not_persistent id r.0 some (mine r.0 (ap (map.get s.nodes) ((bytes_eq-Decides p root).0 e) ∙ r.1)) r.2)

  is_childless : HasNoChild s.nodes p
  unfolding is_child
  is_childless q n found = must_fail (is_child p q) (λ e.
      let parts = both (not (bytes_eq q root)) (bytes_eq (parent q) p) e in
      let up = (good.places q n found (holds_not (bytes_eq q root) parts.0)).1 in
      not_persistent id up.0 some (mine up.0 (ap (map.get s.nodes) (sym ((bytes_eq-Decides (parent q) p).0 parts.1)) ∙ up.1)) up.2)

-- ---- each is removed in its turn

all_shrunk : (s : State) (id : ℕ) (ps : List (List ℕ)) → 1 ≤ id → OwnsJust s.nodes id ps → IsGood s
    → IsGood (record s { nodes = shrunk_by s.nodes s.applied ps }) × OwnsJust (shrunk_by s.nodes s.applied ps) id []
unfolding shrunk_by
all_shrunk s id [] some just good = (good, just)
all_shrunk s id (p ∷ ps) some just good =
    let mine = owner_of_first s.nodes id p ps just in
    all_shrunk (record s { nodes = shrunk s.nodes s.applied p }) id ps some (owns_shrunk s.nodes id s.applied p ps just)
    (shrunk_good s p (is_deep s id p some mine good) (is_childless s id p some mine good) good)

pub closed_good : (s : State) (session : ℕ) → 1 ≤ session → IsGood s → IsGood (closed s s.applied session).state
unfolding closed
closed_good s session some good =
    let rest = all_shrunk s session (owned s.nodes session) some (owns_owned s.nodes session) good in
    session_removed_good (record s { nodes = shrunk_by s.nodes s.applied (owned s.nodes session) }) session rest.1 rest.0
