-- The nodes behind the changes of a ledger.
use Rattle.std.proofs.Common.{◌≡◌, ℕ, zero, suc, Bool, true, false, cond, List, [], ◌∷◌, ◌++◌, length, Option, Some, None, refl, ap, sym, subst, ◌∙◌}
use Rattle.std.specs.Prelude.{String, slice_get, Result, Ok, Err, OnOk}
use Rattle.std.specs.Option.{option_map}
use Rattle.std.specs.Ordering.{eq_by_cmp, is_eq}
use Rattle.std.specs.Str.{bytes_eq}
use Rattle.std.specs.FinMap as map
use Rattle.std.proofs.lemmas.Cmp.{tied_itself}
use Rattle.std.proofs.lemmas.Slice.Eq.{bytes_eq-Decides}
use Rattle.kp_model.specs.declared.node.Node.{Node}
use Rattle.kp_model.specs.State.{State, Nodes, path_cmp, bytes_at, acl_at}
use Rattle.kp_cells.specs.declared.change.Change.{Change}
use Rattle.kp_cells.specs.declared.change.Change.TheVariants as change
use Rattle.kp_cells.specs.declared.change.NodeValue.{NodeValue}
use Rattle.kp_cells.proofs.Maps.{no, not_some, tied}
use Rattle.kp_prep.specs.Changing.{node_set, set_all}
use Rattle.kp_prep.specs.Ledgers.{nodes_behind, node_from, value_in, IsLast, IsPlaced, place_of, IsLedger}
use Rattle.kp_prep.proofs.Changes.{set_append}
use Rattle.kp_cells.proofs.Paths.{path_total, path_same}

-- no node is changed, and no place is kept
pub ledger_begun : {Z : Type 0} (s : State) (changes cs : List Change) (places : List (String Z × ℕ)) → cs ≡ changes → places ≡ [] → nodes_behind s changes ≡ s.nodes → IsLedger s cs places
ledger_begun {Z = Z} s changes cs places is none same =
    subst (λ cs. IsLedger s cs places) (sym is) (subst (λ places. IsLedger {Z = Z} s changes places) (sym none) (λ q. ap (λ nodes. map.get nodes q) same))

slice_get-left : {X : Type 0} (xs ys : List X) (k : ℕ) (x : X) → slice_get xs k ≡ Some x → slice_get (xs ++ ys) k ≡ Some x
slice_get-left [] ys k x e = absurd (not_some (sym e))
slice_get-left (y ∷ xs) ys zero x e = e
slice_get-left (y ∷ xs) ys (suc k) x e = slice_get-left xs ys k x e

slice_get-end : {X : Type 0} (xs : List X) (x : X) → slice_get (xs ++ x ∷ []) (length xs) ≡ Some x
slice_get-end [] x = refl
slice_get-end (y ∷ xs) x = slice_get-end xs x

-- the order of paths tells equal ones as their bytes do
same_tests : (p q : List ℕ) → eq_by_cmp path_cmp q p ≡ bytes_eq p q
same_tests p q = decide (bytes_eq p q) (eq_by_cmp path_cmp q p) refl refl where
  decide : (a b : Bool) → bytes_eq p q ≡ a → eq_by_cmp path_cmp q p ≡ b → b ≡ a
  decide true true e f = refl
  decide false false e f = refl
  decide true false e f = no (eq_by_cmp path_cmp q p) f (ap (eq_by_cmp path_cmp q) ((bytes_eq-Decides p q).0 e) ∙ ap is_eq (tied_itself path_total q))
  decide false true e f = no (bytes_eq p q) e ((bytes_eq-Decides p q).1 (sym (tied path_same q p f)))

-- what is at a path where one node is set, or gone
get-set : (s : State) (p : List ℕ) (v : Option NodeValue) (q : List ℕ) → map.get (node_set s p v).nodes q ≡ cond (bytes_eq p q) (option_map node_from v) (map.get s.nodes q)
get-set s p None q = map.get-remove path_total s.nodes p q ∙ ap (λ b. cond b None (map.get s.nodes q)) (same_tests p q)
get-set s p (Some v) q = map.get-insert path_total s.nodes p (node_from v) q ∙ ap (λ b. cond b (Some (node_from v)) (map.get s.nodes q)) (same_tests p q)

-- one change more
get-behind : (s : State) (cs : List Change) (p : List ℕ) (v : Option NodeValue) (q : List ℕ) → map.get (nodes_behind s (cs ++ change.Node p v ∷ [])) q ≡ cond (bytes_eq p q) (option_map node_from v) (map.get (nodes_behind s cs) q)
unfolding set_all
get-behind s cs p v q =
    ap (λ (z : State). map.get z.nodes q) (set_append s cs (change.Node p v ∷ []))
    ∙ get-set (set_all s cs) p v q

-- a path that isn't changed keeps its place
still : (nodes now after : Nodes) (cs : List Change) (c : Change) (q : List ℕ) (o : Option ℕ) → map.get after q ≡ map.get now q → IsPlaced nodes now cs q o → IsPlaced nodes after (cs ++ c ∷ []) q o
still nodes now after cs c q None same h = same ∙ h
still nodes now after cs c q (Some k) same h = record {
  value = h.value;
  there = slice_get-left cs (c ∷ []) k (change.Node q h.value) h.there;
  same = same ∙ h.same;
}

placed : (nodes now after : Nodes) (cs : List Change) (p q : List ℕ) (v : Option NodeValue) (o : Option ℕ) (b : Bool) → bytes_eq p q ≡ b → map.get after q ≡ cond b (option_map node_from v) (map.get now q) → IsPlaced nodes now cs q o → IsPlaced nodes after (cs ++ change.Node p v ∷ []) q (cond b (Some (length cs)) o)
placed nodes now after cs p q v o true e is h = record {
  value = v;
  there = slice_get-end cs (change.Node p v) ∙ ap (λ r. Some (change.Node r v)) ((bytes_eq-Decides p q).0 e);
  same = is;
}
placed nodes now after cs p q v o false e is h = still nodes now after cs (change.Node p v) q o is h

-- a node is set, or goes, and its place is kept
pub ledger_more : {Z : Type 0} (s : State) (cs new : List Change) (places kept : List (String Z × ℕ)) (p : List ℕ) (v : Option NodeValue) → new ≡ cs ++ change.Node p v ∷ [] → ((q : List ℕ) → place_of kept q ≡ cond (bytes_eq p q) (Some (length cs)) (place_of places q)) → IsLedger s cs places → IsLedger s new kept
ledger_more {Z = Z} s cs new places kept p v is keeps h =
    subst (λ cs. IsLedger s cs kept) (sym is) (λ q.
    subst (IsPlaced s.nodes (nodes_behind s (cs ++ change.Node p v ∷ [])) (cs ++ change.Node p v ∷ []) q) (sym (keeps q))
    (placed s.nodes (nodes_behind s cs) (nodes_behind s (cs ++ change.Node p v ∷ [])) cs p q v (place_of places q) (bytes_eq p q) refl (get-behind s cs p v q) (h q)))

-- without a place, what is lent of the view is what is there
behind_view : {Z : Type 0} (s : State) (cs : List Change) (places : List (String Z × ℕ)) (q : List ℕ) → IsLedger s cs places → None ≡ place_of places q → map.get s.nodes q ≡ map.get (nodes_behind s cs) q
behind_view s cs places q h none = sym (subst (IsPlaced s.nodes (nodes_behind s cs) cs q) (sym none) (h q))

pub bytes_of_view : {Z : Type 0} (s : State) (cs : List Change) (places : List (String Z × ℕ)) (q : List ℕ) → IsLedger s cs places → None ≡ place_of places q → bytes_at s.nodes q ≡ bytes_at (nodes_behind s cs) q
unfolding bytes_at
bytes_of_view s cs places q h none = ap (option_map (λ (n : Node). n.bytes)) (behind_view s cs places q h none)

pub acl_of_view : {Z : Type 0} (s : State) (cs : List Change) (places : List (String Z × ℕ)) (q : List ℕ) → IsLedger s cs places → None ≡ place_of places q → acl_at s.nodes q ≡ acl_at (nodes_behind s cs) q
unfolding acl_at
acl_of_view s cs places q h none = ap (option_map (λ (n : Node). n.acl)) (behind_view s cs places q h none)

-- with one, what is there is what its change sets
behind_change : {Z : Type 0} (s : State) (cs : List Change) (places : List (String Z × ℕ)) (q : List ℕ) (k : ℕ) (o : Option NodeValue) → IsLedger s cs places → Some k ≡ place_of places q → o ≡ value_in (slice_get cs k) → option_map node_from o ≡ map.get (nodes_behind s cs) q
behind_change s cs places q k o h some is =
    let last : IsLast (nodes_behind s cs) cs q k = subst (IsPlaced s.nodes (nodes_behind s cs) cs q) (sym some) (h q) in
    ap (option_map node_from) (is ∙ ap value_in last.there) ∙ sym last.same

pub bytes_of_change : {Z : Type 0} (s : State) (cs : List Change) (places : List (String Z × ℕ)) (q : List ℕ) (k : ℕ) (o : Option NodeValue) → IsLedger s cs places → Some k ≡ place_of places q → o ≡ value_in (slice_get cs k) → option_map (λ (n : Node). n.bytes) (option_map node_from o) ≡ bytes_at (nodes_behind s cs) q
unfolding bytes_at
bytes_of_change s cs places q k o h some is = ap (option_map (λ (n : Node). n.bytes)) (behind_change s cs places q k o h some is)

pub acl_of_change : {Z : Type 0} (s : State) (cs : List Change) (places : List (String Z × ℕ)) (q : List ℕ) (k : ℕ) (o : Option NodeValue) → IsLedger s cs places → Some k ≡ place_of places q → o ≡ value_in (slice_get cs k) → option_map (λ (n : Node). n.acl) (option_map node_from o) ≡ acl_at (nodes_behind s cs) q
unfolding acl_at
acl_of_change s cs places q k o h some is = ap (option_map (λ (n : Node). n.acl)) (behind_change s cs places q k o h some is)

-- what follows where a call went well
pub on_ok_then : {X E : Type 0} {A B : Type 0} (r : Result X E) → OnOk r A → (A → B) → OnOk r B
on_ok_then (Ok x) a f = f a
on_ok_then (Err e) a f = tt
