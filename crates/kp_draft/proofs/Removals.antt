-- The removals of the nodes that a session owns.
use Rattle.std.proofs.Common.{◌≡◌, ℕ, zero, suc, ◌+◌, ◌-◌, ◌<◌, arith, take, Bool, true, false, ◌||◌, List, [], ◌∷◌, ◌++◌, length, min, Some, refl, ap, sym, subst, ◌∙◌}
use Rattle.std.proofs.Math.ListN.{get_or}
use Rattle.std.specs.Prelude.{map, unwrap_or, IsTrue}
use Rattle.std.specs.List.{All, AllByRecursion}
use Rattle.std.specs.Str.{bytes_eq}
use Rattle.std.specs.FinMap as fin
use Rattle.std.proofs.lemmas.List.Elements.{All-nil, All-cons}
use Rattle.std.proofs.lemmas.List.Folds.{list_any-append}
use Rattle.std.proofs.lemmas.Slice.Eq.{bytes_eq-Decides}
use Rattle.kp_model.specs.declared.node.Node.{Node}
use Rattle.kp_model.specs.Path.{parent}
use Rattle.kp_model.specs.Poured.{node_of}
use Rattle.kp_model.specs.State.{State, Nodes, blank_node, children, meta_of}
use Rattle.kp_model.specs.Step.{changed, shrunk, shrunk_by, without_child}
use Rattle.kp_model.specs.Touched.{with_parents}
use Rattle.kp_cells.specs.Parts.{parts_of}
use Rattle.kp_act.specs.declared.plan.Effect.{Effect}
use Rattle.kp_act.specs.declared.plan.Effect.TheVariants as effect
use Rattle.kp_draft.specs.Closing.{IsLeaf, AreLeaves}
use Rattle.kp_draft.specs.Drafts.{up_left, removal, removals}
use Rattle.kp_act.specs.Effects.{OwnerIs, IsFit, FitsData, effected, effected_nodes, without_child_shown}
use Rattle.kp_act.specs.Several.{effected_by, effected_nodes_by, TellOwners}
use Rattle.kp_act.specs.Among.{is_among, IsFamilyAmong, IsEffectAmong}
use Rattle.kp_act.proofs.Acts.{owner_told}
use Rattle.kp_draft.proofs.Leaves.{shrunk_is, leaves_left}
use Rattle.kp_act.proofs.Outcomes.{stat-count, parts-gone}
use Rattle.kp_act.proofs.Seen.{meta_there}

-- the shown numbers of the parent that is left
pub left_shown : (i : ℕ) (nodes : Nodes) (p : List ℕ) (u : Node) → fin.get nodes (parent p) ≡ Some u → up_left i nodes p ≡ meta_of (length (children nodes (parent p)) - 1) (without_child i u)
left_shown i nodes p u above =
    let c : ℕ = length (children nodes (parent p)) in
    ap (λ o. without_child_shown i (min (c - 1) 2147483647) (unwrap_or o (meta_of 0 blank_node))) (meta_there nodes (parent p) u above)
    ∙ ap (without_child_shown i (min (c - 1) 2147483647)) (stat-count nodes (parent p) u c refl)

module _ (i id : ℕ) where
  removal_parts : (s : State) (p : List ℕ) → IsLeaf s.nodes id p → effected (parts_of s) (removal i id s.nodes p) ≡ parts_of (record s { nodes = shrunk s.nodes i p })
  removal_parts s p h =
      let v : Node = without_child i h.up in
      ap (λ m. effected (parts_of s) (effect.Remove p m id)) (left_shown i s.nodes p h.up h.above)
      ∙ ap (λ o. effected (parts_of s) (effect.Remove p (meta_of (length (children s.nodes (parent p)) - 1) v) o)) (sym h.owner)
      ∙ sym (parts-gone s p h.up v h.above h.family.child.1 refl refl refl h.node h.there)
      ∙ sym (ap (λ z. parts_of (record s { nodes = z })) (shrunk_is i s.nodes p h.up h.above))

  pub removal_nodes : (nodes : Nodes) (p : List ℕ) (u : Node) → fin.get nodes (parent p) ≡ Some u → effected_nodes nodes (removal i id nodes p) ≡ shrunk nodes i p
  removal_nodes nodes p u above =
      ap (λ o. fin.remove (changed (λ (n : Node). node_of n.bytes n.acl (up_left i nodes p)) (parent p) o nodes) p) above
      ∙ ap (λ m. fin.remove (fin.insert nodes (parent p) (node_of u.bytes u.acl m)) p) (left_shown i nodes p u above)
      ∙ sym (shrunk_is i nodes p u above)

  removal_owner : (s : State) (p : List ℕ) → IsLeaf s.nodes id p → OwnerIs (parts_of s).owners id p
  removal_owner s p h = owner_told s p h.node id h.there (sym h.owner)

  pub removals_parts : (s : State) (ps : List (List ℕ)) → AreLeaves s.nodes id ps → effected_by (parts_of s) (removals i id s.nodes ps) ≡ parts_of (record s { nodes = shrunk_by s.nodes i ps })
  unfolding effected_by removals shrunk_by
  removals_parts s [] h = refl
  removals_parts s (p ∷ ps) h =
      let z : State = record s { nodes = shrunk s.nodes i p } in
      ap (λ x. effected_by x (removals i id (shrunk s.nodes i p) ps)) (removal_parts s p h.leaves.0)
      ∙ removals_parts z ps (leaves_left i s.nodes id p ps h)

  pub removals_nodes : (nodes : Nodes) (ps : List (List ℕ)) → AreLeaves nodes id ps → effected_nodes_by nodes (removals i id nodes ps) ≡ shrunk_by nodes i ps
  unfolding effected_nodes_by removals shrunk_by
  removals_nodes nodes [] h = refl
  removals_nodes nodes (p ∷ ps) h =
      ap (λ x. effected_nodes_by x (removals i id (shrunk nodes i p) ps)) (removal_nodes nodes p h.leaves.0.up h.leaves.0.above)
      ∙ removals_nodes (shrunk nodes i p) ps (leaves_left i nodes id p ps h)

  pub removals_owners : (s : State) (ps : List (List ℕ)) → AreLeaves s.nodes id ps → TellOwners (parts_of s) (removals i id s.nodes ps)
  unfolding TellOwners removals
  removals_owners s [] h = tt
  removals_owners s (p ∷ ps) h =
      let z : State = record s { nodes = shrunk s.nodes i p } in
      (removal_owner s p h.leaves.0, subst (λ x. TellOwners x (removals i id (shrunk s.nodes i p) ps)) (sym (removal_parts s p h.leaves.0)) (removals_owners z ps (leaves_left i s.nodes id p ps h)))

  -- a node is still owned where those before it are gone
  pub leaf_now : (nodes : Nodes) (ps : List (List ℕ)) (k : ℕ) (d : List ℕ) → AreLeaves nodes id ps → k < length ps → IsLeaf (effected_nodes_by nodes (removals i id nodes (take k ps))) id (get_or ps k d)
  unfolding effected_nodes_by removals
  leaf_now nodes [] k d h b = absurd (omega (arith, b))
  leaf_now nodes (p ∷ ps) zero d h b = h.leaves.0
  leaf_now nodes (p ∷ ps) (suc k) d h b =
      subst (λ z. IsLeaf (effected_nodes_by z (removals i id (shrunk nodes i p) (take k ps))) id (get_or ps k d)) (sym (removal_nodes nodes p h.leaves.0.up h.leaves.0.above))
      (leaf_now (shrunk nodes i p) ps k d (leaves_left i nodes id p ps h) (omega (arith, b)))

  -- one removal more
  pub removals_more : (nodes : Nodes) (ps : List (List ℕ)) (k : ℕ) (d : List ℕ) → AreLeaves nodes id ps → k < length ps → removals i id nodes (take (suc k) ps) ≡ removals i id nodes (take k ps) ++ removal i id (effected_nodes_by nodes (removals i id nodes (take k ps))) (get_or ps k d) ∷ []
  unfolding effected_nodes_by removals
  removals_more nodes [] k d h b = absurd (omega (arith, b))
  removals_more nodes (p ∷ ps) zero d h b = refl
  removals_more nodes (p ∷ ps) (suc k) d h b =
      ap (λ es. removal i id nodes p ∷ es) (removals_more (shrunk nodes i p) ps k d (leaves_left i nodes id p ps h) (omega (arith, b))
      ∙ ap (λ z. removals i id (shrunk nodes i p) (take k ps) ++ removal i id (effected_nodes_by z (removals i id (shrunk nodes i p) (take k ps))) (get_or ps k d) ∷ []) (sym (removal_nodes nodes p h.leaves.0.up h.leaves.0.above)))

  pub removals_fit : (nodes : Nodes) (ps : List (List ℕ)) → AreLeaves nodes id ps → All IsFit (removals i id nodes ps)
  unfolding removals
  removals_fit nodes [] h = All-nil IsFit
  removals_fit nodes (p ∷ ps) h = All-cons IsFit (removal i id nodes p) (removals i id (shrunk nodes i p) ps) h.leaves.0.family (removals_fit (shrunk nodes i p) ps (leaves_left i nodes id p ps h))

  pub removals_data : (nodes : Nodes) (ps : List (List ℕ)) → All FitsData (removals i id nodes ps)
  unfolding removals
  removals_data nodes [] = All-nil FitsData
  removals_data nodes (p ∷ ps) = All-cons FitsData (removal i id nodes p) (removals i id (shrunk nodes i p) ps) tt (removals_data (shrunk nodes i p) ps)

  pub removals_among : (touched : List (List ℕ)) (nodes : Nodes) (ps : List (List ℕ)) → AllByRecursion (IsFamilyAmong touched) ps → All (IsEffectAmong touched) (removals i id nodes ps)
  unfolding removals
  removals_among touched nodes [] h = All-nil (IsEffectAmong touched)
  removals_among touched nodes (p ∷ ps) h = All-cons (IsEffectAmong touched) (removal i id nodes p) (removals i id (shrunk nodes i p) ps) h.0 (removals_among touched (shrunk nodes i p) ps h.1)

pub removals_none : (i id : ℕ) (nodes : Nodes) → removals i id nodes [] ≡ []
unfolding removals
removals_none i id nodes = refl

-- the path at a place, behind the removals of those before it
pub leaf_next : (i id : ℕ) (nodes : Nodes) (ps : List (List ℕ)) (k : ℕ) (item p : List ℕ) (es : List Effect) → AreLeaves nodes id ps → k < length ps → item ≡ get_or ps k item → p ≡ item → es ≡ removals i id nodes (take k ps) → IsLeaf (effected_nodes_by nodes es) id p
leaf_next i id nodes ps k item p es h b at is are =
    subst (λ xs. IsLeaf (effected_nodes_by nodes xs) id p) (sym are) (
    subst (IsLeaf (effected_nodes_by nodes (removals i id nodes (take k ps))) id) (sym (is ∙ at)) (leaf_now i id nodes ps k item h b))

one_up : (k : ℕ) → suc k ≡ k + 1
one_up k = omega arith

pub removals_next : (i id : ℕ) (nodes : Nodes) (ps : List (List ℕ)) (k : ℕ) (item p : List ℕ) (es after : List Effect) → AreLeaves nodes id ps → k < length ps → item ≡ get_or ps k item → p ≡ item → es ≡ removals i id nodes (take k ps) → after ≡ es ++ removal i id (effected_nodes_by nodes es) p ∷ [] → after ≡ removals i id nodes (take (k + 1) ps)
removals_next i id nodes ps k item p es after h b at is are pushed =
    pushed
    ∙ ap (λ xs. xs ++ removal i id (effected_nodes_by nodes xs) p ∷ []) are
    ∙ ap (λ q. removals i id nodes (take k ps) ++ removal i id (effected_nodes_by nodes (removals i id nodes (take k ps))) q ∷ []) (is ∙ at)
    ∙ sym (removals_more i id nodes ps k item h b)
    ∙ ap (λ n. removals i id nodes (take n ps)) (one_up k)

-- what holds of each
weaker : {X : Type 0} (P Q : X → Type 0) → ((x : X) → P x → Q x) → (xs : List X) → AllByRecursion P xs → AllByRecursion Q xs
weaker P Q f [] h = tt
weaker P Q f (x ∷ xs) h = (f x h.0, weaker P Q f xs h.1)

both : {X : Type 0} (P Q : X → Type 0) → (xs : List X) → AllByRecursion P xs → AllByRecursion Q xs → AllByRecursion (λ x. P x × Q x) xs
both P Q [] h g = tt
both P Q (x ∷ xs) h g = ((h.0, g.0), both P Q xs h.1 g.1)

or_true : (b : Bool) → (b || true) ≡ true
or_true true = refl
or_true false = refl

-- each element, under a function, is among them under it
each_among : (f : List ℕ → List ℕ) (ps : List (List ℕ)) → AllByRecursion (λ p. IsTrue (is_among (map f ps) (f p))) ps
each_among f [] = tt
each_among f (p ∷ ps) = (
  ap (λ b. b || is_among (map f ps) (f p)) ((bytes_eq-Decides (f p) (f p)).1 refl),
  weaker (λ q. IsTrue (is_among (map f ps) (f q))) (λ q. IsTrue (is_among (map f (p ∷ ps)) (f q))) (λ q h. ap (λ b. bytes_eq (f q) (f p) || b) h ∙ or_true (bytes_eq (f q) (f p))) ps (each_among f ps),
)

itself : (ps : List (List ℕ)) → map (λ p. p) ps ≡ ps
itself [] = refl
itself (p ∷ ps) = ap (◌∷◌ p) (itself ps)

-- the paths and their parents are among them with their parents
pub families : (ps : List (List ℕ)) → AllByRecursion (IsFamilyAmong (with_parents ps)) ps
families ps = both (λ p. IsTrue (is_among (with_parents ps) p)) (λ p. IsTrue (is_among (with_parents ps) (parent p))) ps
    (weaker (λ p. IsTrue (is_among (map (λ q. q) ps) p)) (λ p. IsTrue (is_among (with_parents ps) p)) (λ p h. list_any-append (bytes_eq p) ps (map parent ps) ∙ ap (λ b. b || is_among (map parent ps) p) (sym (ap (λ qs. is_among qs p) (itself ps)) ∙ h)) ps (each_among (λ q. q) ps))
    (weaker (λ p. IsTrue (is_among (map parent ps) (parent p))) (λ p. IsTrue (is_among (with_parents ps) (parent p))) (λ p h. list_any-append (bytes_eq (parent p)) ps (map parent ps) ∙ ap (λ b. is_among ps (parent p) || b) h ∙ or_true (is_among ps (parent p))) ps (each_among parent ps))
