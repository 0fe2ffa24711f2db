-- The nodes that a session owns, while they go one after the other.
use Rattle.std.proofs.Common.{◌≡◌, ℕ, ◌≤◌, Bool, true, false, cond, List, [], ◌∷◌, Option, Some, None, IsSome, refl, ap, sym, ◌∙◌, arith}
use Rattle.std.specs.Prelude.{◌==◌}
use Rattle.std.specs.List.{AllByRecursion, IsDistinct, filter}
use Rattle.std.specs.Option.{option_map_or}
use Rattle.std.specs.Ordering.{eq_by_cmp, is_eq}
use Rattle.std.specs.Str.{bytes_eq}
use Rattle.std.specs.FinMap as fin
use Rattle.std.proofs.lemmas.Bool.Decides.{Decides-eqb}
use Rattle.std.proofs.lemmas.Cmp.{tied_itself}
use Rattle.std.proofs.lemmas.List.Kept.{IsStrictlySortedBy-filter}
use Rattle.std.proofs.lemmas.Map.Keys.{IsDistinct-from_sorted}
use Rattle.std.proofs.lemmas.Slice.Eq.{bytes_eq-Decides}
use Rattle.kp_model.specs.declared.node.Node.{Node}
use Rattle.kp_model.specs.declared.session.Session.{Session}
use Rattle.kp_model.specs.Good.{IsGood}
use Rattle.kp_model.specs.Path.{root, parent}
use Rattle.kp_model.specs.State.{State, Nodes, is_owned, owned, path_cmp}
use Rattle.kp_model.specs.Step.{changed, shrunk, without_child}
use Rattle.kp_layers.proofs.Listed.{sorted_keys}
use Rattle.kp_cells.proofs.Maps.{no, tied}
use Rattle.kp_draft.specs.Closing.{IsLeaf, AreLeaves}
use Rattle.kp_act.proofs.Acts.{formed}
use Rattle.kp_cells.proofs.Paths.{path_total, path_same}

-- what is at one path has one owner
one_owner : (o : Option Node) (a b : Node) → o ≡ Some a → o ≡ Some b → a.owner ≡ b.owner
one_owner o a b e f = ap (λ r. option_map_or (λ (n : Node). n.owner) r 0) (sym e ∙ f)

alike : (p q : List ℕ) → eq_by_cmp path_cmp p q ≡ true → p ≡ q
alike p q h = tied path_same p q h

turned : (p q : List ℕ) → eq_by_cmp path_cmp p q ≡ false → eq_by_cmp path_cmp q p ≡ false
turned p q h = decide (eq_by_cmp path_cmp q p) refl where
  decide : (b : Bool) → eq_by_cmp path_cmp q p ≡ b → b ≡ false
  decide false e = refl
  decide true e = no (eq_by_cmp path_cmp p q) h (ap (λ r. eq_by_cmp path_cmp p r) (alike q p e) ∙ tied_there p) where
    tied_there : (r : List ℕ) → eq_by_cmp path_cmp r r ≡ true
    tied_there r = ap (λ o. is_eq o) (tied_itself path_total r)

-- the nodes without one, where its parent is there
pub shrunk_is : (i : ℕ) (nodes : Nodes) (p : List ℕ) (u : Node) → fin.get nodes (parent p) ≡ Some u → shrunk nodes i p ≡ fin.remove (fin.insert nodes (parent p) (without_child i u)) p
unfolding shrunk
shrunk_is i nodes p u e = ap (λ o. fin.remove (changed (without_child i) (parent p) o nodes) p) e

pub get-shrunk : (i : ℕ) (nodes : Nodes) (p : List ℕ) (u : Node) → fin.get nodes (parent p) ≡ Some u → (q : List ℕ) → fin.get (shrunk nodes i p) q ≡ cond (eq_by_cmp path_cmp q p) None (cond (eq_by_cmp path_cmp q (parent p)) (Some (without_child i u)) (fin.get nodes q))
get-shrunk i nodes p u e q =
    ap (λ z. fin.get z q) (shrunk_is i nodes p u e)
    ∙ fin.get-remove path_total (fin.insert nodes (parent p) (without_child i u)) p q
    ∙ ap (cond (eq_by_cmp path_cmp q p) None) (fin.get-insert path_total nodes (parent p) (without_child i u) q)

module _ (i id : ℕ) (live : (id == 0) ≡ false) where
  clash : {A : Type 0} → id ≡ 0 → A
  clash e = no (id == 0) live ((Decides-eqb id 0).1 e)

  -- the parent of an owned node isn't owned
  pub up_apart : (nodes : Nodes) (p q : List ℕ) → IsLeaf nodes id p → IsLeaf nodes id q → eq_by_cmp path_cmp (parent q) p ≡ false
  up_apart nodes p q h g = decide (eq_by_cmp path_cmp (parent q) p) refl where
    decide : (b : Bool) → eq_by_cmp path_cmp (parent q) p ≡ b → b ≡ false
    decide false e = refl
    decide true e = clash (sym h.owner ∙ one_owner (fin.get nodes p) h.node g.up h.there (ap (fin.get nodes) (sym (alike (parent q) p e)) ∙ g.above) ∙ g.persistent)

  -- and an owned node isn't a parent of one
  leaf_apart : (nodes : Nodes) (p q : List ℕ) → IsLeaf nodes id p → IsLeaf nodes id q → eq_by_cmp path_cmp q (parent p) ≡ false
  leaf_apart nodes p q h g = turned (parent p) q (up_apart nodes q p g h)

  -- another owned node stays as it is where one goes
  leaf_stays : (nodes : Nodes) (p q : List ℕ) → eq_by_cmp path_cmp p q ≡ false → IsLeaf nodes id p → IsLeaf nodes id q → IsLeaf (shrunk nodes i p) id q
  leaf_stays nodes p q apart h g = cases (eq_by_cmp path_cmp (parent q) (parent p)) refl where
    there : fin.get (shrunk nodes i p) q ≡ Some g.node
    there =
        get-shrunk i nodes p h.up h.above q
        ∙ ap (λ b. cond b None (cond (eq_by_cmp path_cmp q (parent p)) (Some (without_child i h.up)) (fin.get nodes q))) (turned p q apart)
        ∙ ap (λ b. cond b (Some (without_child i h.up)) (fin.get nodes q)) (leaf_apart nodes p q h g)
        ∙ g.there

    above : (b : Bool) → eq_by_cmp path_cmp (parent q) (parent p) ≡ b → fin.get (shrunk nodes i p) (parent q) ≡ cond b (Some (without_child i h.up)) (fin.get nodes (parent q))
    above b e =
        get-shrunk i nodes p h.up h.above (parent q)
        ∙ ap (λ c. cond c None (cond (eq_by_cmp path_cmp (parent q) (parent p)) (Some (without_child i h.up)) (fin.get nodes (parent q)))) (up_apart nodes p q h g)
        ∙ ap (λ c. cond c (Some (without_child i h.up)) (fin.get nodes (parent q))) e

    cases : (b : Bool) → eq_by_cmp path_cmp (parent q) (parent p) ≡ b → IsLeaf (shrunk nodes i p) id q
    cases true e = record { node = g.node; there = there; owner = g.owner; up = without_child i h.up; above = above true e; persistent = h.persistent; family = g.family }
    cases false e = record { node = g.node; there = there; owner = g.owner; up = g.up; above = above false e ∙ g.above; persistent = g.persistent; family = g.family }

  leaves_stay : (nodes : Nodes) (p : List ℕ) (qs : List (List ℕ)) → IsLeaf nodes id p → AllByRecursion (λ q. eq_by_cmp path_cmp p q ≡ false) qs → AllByRecursion (IsLeaf nodes id) qs → AllByRecursion (IsLeaf (shrunk nodes i p) id) qs
  leaves_stay nodes p [] h apart g = tt
  leaves_stay nodes p (q ∷ qs) h apart g = (leaf_stays nodes p q apart.0 h g.0, leaves_stay nodes p qs h apart.1 g.1)

-- what is left where the first node goes
pub leaves_left : (i : ℕ) (nodes : Nodes) (id : ℕ) (p : List ℕ) (ps : List (List ℕ)) → AreLeaves nodes id (p ∷ ps) → AreLeaves (shrunk nodes i p) id ps
unfolding IsDistinct
leaves_left i nodes id p ps h = record { live = h.live; leaves = leaves_stay i id h.live nodes p ps h.leaves.0 h.apart.0 h.leaves.1; apart = h.apart.1 }

-- where each key that passes has it
one_more : {K : Type 0} (P : K → Type 0) (k : K) (ks : List K) (b : Bool) → (b ≡ true → P k) → AllByRecursion P ks → AllByRecursion P (cond b (k ∷ ks) ks)
one_more P k ks true g h = (g refl, h)
one_more P k ks false g h = h

passed : {K : Type 0} (P : K → Type 0) (f : K → Bool) → ((k : K) → f k ≡ true → P k) → (ks : List K) → AllByRecursion P (filter f ks)
passed P f g [] = tt
passed P f g (k ∷ ks) = one_more P k (filter f ks) (f k) (g k) (passed P f g ks)

-- the nodes that a live session of a good state owns
module _ (s : State) (good : IsGood s) (id : ℕ) (live : (id == 0) ≡ false) where
  leaf_at : (q : List ℕ) (n : Node) → fin.get s.nodes q ≡ Some n → n.owner ≡ id → IsLeaf s.nodes id q
  leaf_at q n there owner = cases (bytes_eq q root) refl where
    cases : (b : Bool) → bytes_eq q root ≡ b → IsLeaf s.nodes id q
    cases true e =
        let at : q ≡ root = (bytes_eq-Decides q root).0 e in
        clash 0 id live (sym owner ∙ one_owner (fin.get s.nodes root) n good.root_there.0 (ap (fin.get s.nodes) (sym at) ∙ there) good.root_there.1 ∙ good.root_there.2)
    cases false e =
        let place = good.places q n there e in
        record {
          node = n;
          there = there;
          owner = owner;
          up = place.1.0;
          above = place.1.1;
          persistent = place.1.2;
          family = record { child = (place.0, e); above = formed s.nodes good.places (parent q) place.1.0 place.1.1 };
        }

  leaf : (q : List ℕ) → is_owned s.nodes id q ≡ true → IsLeaf s.nodes id q
  leaf q h = cases (fin.get s.nodes q) refl h where
    cases : (o : Option Node) → fin.get s.nodes q ≡ o → option_map_or (λ (n : Node). n.owner == id) o false ≡ true → IsLeaf s.nodes id q
    cases None e h = no false refl h
    cases (Some n) e h = leaf_at q n e ((Decides-eqb n.owner id).0 h)

  pub owned_leaves : AreLeaves s.nodes id (owned s.nodes id)
  unfolding owned
  owned_leaves = record {
    live = live;
    leaves = passed (IsLeaf s.nodes id) (is_owned s.nodes id) leaf (fin.keys s.nodes);
    apart = IsDistinct-from_sorted path_cmp (filter (is_owned s.nodes id) (fin.keys s.nodes)) (IsStrictlySortedBy-filter path_cmp (is_owned s.nodes id) (fin.keys s.nodes) (sorted_keys path_cmp (fin.entries s.nodes) (fin.entries_sorted s.nodes)));
  }

positive : (id : ℕ) → 1 ≤ id → (id == 0) ≡ false
positive id h = decide (id == 0) refl where
  decide : (b : Bool) → (id == 0) ≡ b → b ≡ false
  decide false e = refl
  decide true e = let z : id ≡ 0 = (Decides-eqb id 0).0 e in absurd (omega (arith, h, z))

-- the number of a live session isn't 0
pub live_number : (s : State) → IsGood s → (id : ℕ) → IsSome (fin.get s.sessions id) → (id == 0) ≡ false
live_number s good id h = cases (fin.get s.sessions id) refl h where
  cases : (o : Option Session) → fin.get s.sessions id ≡ o → IsSome o → (id == 0) ≡ false
  cases None e h = no false refl h
  cases (Some x) e h = positive id (good.sessions id x e).given
