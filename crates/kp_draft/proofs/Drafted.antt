-- What is known of the nodes behind some effects.
use Rattle.std.proofs.Common.{◌≡◌, ℕ, ◌-◌, Bool, true, false, cond, List, [], ◌∷◌, ◌++◌, length, min, Option, Some, None, IsSome, is_some, refl, ap, sym, subst, ◌∙◌, arith, ◌<◌}
use Rattle.std.specs.Prelude.{unwrap_or, String, Result, Ok, Err, OnOk}
use Rattle.std.specs.Option.{option_map}
use Rattle.std.specs.Ordering.{eq_by_cmp, is_eq}
use Rattle.std.specs.Str.{bytes_eq}
use Rattle.std.specs.FinMap as fin
use Rattle.std.proofs.lemmas.Cmp.{tied_itself}
use Rattle.std.proofs.lemmas.Slice.Eq.{bytes_eq-Decides}
use Rattle.kp_model.specs.declared.node.Meta.{Meta}
use Rattle.kp_model.specs.declared.node.Node.{Node}
use Rattle.kp_model.specs.Path.{parent}
use Rattle.kp_model.specs.State.{Nodes, path_cmp, blank_node, children, meta_at, meta_of, stat}
use Rattle.kp_model.specs.Step.{shrunk, without_child}
use Rattle.kp_cells.proofs.Maps.{no, tied}
use Rattle.kp_draft.specs.declared.draft.Known.{Known}
use Rattle.kp_act.specs.declared.plan.Effect.{Effect}
use Rattle.kp_act.specs.declared.plan.Effect.TheVariants as effect
use Rattle.kp_draft.specs.Drafts.{IsKnown, IsSame, Tells, IsDraft, known_at, removal}
use Rattle.kp_act.specs.Effects.{IsChildPath, effected_nodes, without_child_shown}
use Rattle.kp_act.specs.Several.{effected_nodes_by}
use Rattle.kp_act.proofs.Acts.{shown_kids}
use Rattle.kp_cells.proofs.Kids.{count_up-gone, count_else-gone}
use Rattle.kp_draft.proofs.Leaves.{shrunk_is, get-shrunk}
use Rattle.kp_act.proofs.Outcomes.{stat-count}
use Rattle.kp_cells.proofs.Paths.{path_total, path_same, own_parent_apart}
use Rattle.kp_draft.proofs.Removals.{left_shown, removal_nodes}
use Rattle.kp_act.proofs.Seen.{meta_there, meta_none, meta_absent}

-- where not more can be shown, the shown number of children is theirs
pub exact_kids : (nodes : Nodes) (p : List ℕ) (m : Meta) → Some m ≡ meta_at nodes p → m.kids < 2147483647 → m.kids ≡ length (children nodes p)
exact_kids nodes p m e h = let s = shown_kids nodes p m (sym e) in omega (arith, s, h)

-- nothing is done, and nothing is kept
pub draft_blank : {Z : Type 0} (nodes : Nodes) (es : List Effect) (kept : List (String Z × Known)) → es ≡ [] → kept ≡ [] → IsDraft nodes es kept
unfolding effected_nodes_by
draft_blank {Z = Z} nodes es kept e k = subst (λ es. IsDraft nodes es kept) (sym e) (subst (λ kept. IsDraft {Z = Z} nodes [] kept) (sym k) (λ q. record { meta = refl; kids = refl }))

-- what is kept of a path
pub kept_some : {Z : Type 0} (nodes : Nodes) (es : List Effect) (kept : List (String Z × Known)) (q : List ℕ) (k : Known) → IsDraft nodes es kept → Some k ≡ known_at kept q → IsKnown (effected_nodes_by nodes es) q k
kept_some nodes es kept q k h e = subst (Tells nodes (effected_nodes_by nodes es) q) (sym e) (h q)

-- what is known of it where nothing is kept
pub kept_none : {Z : Type 0} (nodes : Nodes) (es : List Effect) (kept : List (String Z × Known)) (q : List ℕ) (k : Known) → IsDraft nodes es kept → None ≡ known_at kept q → IsKnown nodes q k → IsKnown (effected_nodes_by nodes es) q k
kept_none nodes es kept q k h e known =
    let same : IsSame nodes (effected_nodes_by nodes es) q = subst (Tells nodes (effected_nodes_by nodes es) q) (sym e) (h q) in
    record { meta = known.meta ∙ sym same.meta; kids = known.kids ∙ sym same.kids }

-- one effect more
pub effected-push : (nodes : Nodes) (es : List Effect) (e : Effect) → effected_nodes_by nodes (es ++ e ∷ []) ≡ effected_nodes (effected_nodes_by nodes es) e
unfolding effected_nodes_by
effected-push nodes [] e = refl
effected-push nodes (x ∷ es) e = effected-push (effected_nodes nodes x) es e

apart : (p q : List ℕ) → bytes_eq p q ≡ false → eq_by_cmp path_cmp q p ≡ false
apart p q h = decide (eq_by_cmp path_cmp q p) refl where
  decide : (b : Bool) → eq_by_cmp path_cmp q p ≡ b → b ≡ false
  decide false e = refl
  decide true e = no (bytes_eq p q) h ((bytes_eq-Decides p q).1 (sym (tied path_same q p e)))

-- what is shown depends on the node and on how many children it has
meta_same : (nodes now : Nodes) (q : List ℕ) → fin.get now q ≡ fin.get nodes q → length (children now q) ≡ length (children nodes q) → meta_at now q ≡ meta_at nodes q
unfolding meta_at stat
meta_same nodes now q same kids = ap (option_map (stat now q)) same ∙ ap (λ c. option_map (meta_of c) (fin.get nodes q)) kids

-- the numbers and the children of each path where a node goes
module _ (i : ℕ) (now : Nodes) (p : List ℕ) (u n : Node) (above : fin.get now (parent p) ≡ Some u) (there : fin.get now p ≡ Some n) (child : IsChildPath p) where
  abbrev gone : Nodes
  gone = fin.remove (fin.insert now (parent p) (without_child i u)) p

  abbrev siblings : ℕ
  siblings = length (children now (parent p))

  is_gone : shrunk now i p ≡ gone
  is_gone = shrunk_is i now p u above

  counted : (q : List ℕ) → length (children (shrunk now i p) q) ≡ length (children gone q)
  counted q = ap (λ z. length (children z q)) is_gone

  own : (r : List ℕ) → eq_by_cmp path_cmp r r ≡ true
  own r = ap is_eq (tied_itself path_total r)

  at_path : fin.get (shrunk now i p) p ≡ None
  at_path = get-shrunk i now p u above p ∙ ap (λ b. cond b None (cond (eq_by_cmp path_cmp p (parent p)) (Some (without_child i u)) (fin.get now p))) (own p)

  turned : eq_by_cmp path_cmp (parent p) p ≡ false
  turned = decide (eq_by_cmp path_cmp (parent p) p) refl where
    decide : (b : Bool) → eq_by_cmp path_cmp (parent p) p ≡ b → b ≡ false
    decide false e = refl
    decide true e = no (eq_by_cmp path_cmp p (parent p)) (own_parent_apart p child.1) (ap (λ r. eq_by_cmp path_cmp r (parent p)) (sym (tied path_same (parent p) p e)) ∙ own (parent p))

  at_parent : fin.get (shrunk now i p) (parent p) ≡ Some (without_child i u)
  at_parent =
      get-shrunk i now p u above (parent p)
      ∙ ap (λ b. cond b None (cond (eq_by_cmp path_cmp (parent p) (parent p)) (Some (without_child i u)) (fin.get now (parent p)))) turned
      ∙ ap (λ b. cond b (Some (without_child i u)) (fin.get now (parent p))) (own (parent p))

  pub path_known : (kids : ℕ) → kids ≡ length (children now p) → IsKnown (shrunk now i p) p (record { meta = None; kids = kids })
  path_known kids is = record {
    meta = sym (meta_absent (shrunk now i p) p (ap is_some at_path));
    kids = is ∙ sym (counted p ∙ count_else-gone now p u (without_child i u) u above child.1 p (own_parent_apart p child.1));
  }

  fewer : length (children (shrunk now i p) (parent p)) ≡ siblings - 1
  fewer = counted (parent p) ∙ count_up-gone now p u (without_child i u) u above child.1 n there

  pub parent_known : (count : ℕ) (m : Meta) → count ≡ siblings → Some m ≡ meta_at now (parent p) → IsKnown (shrunk now i p) (parent p) (record { meta = Some (without_child_shown i (min (count - 1) 2147483647) m); kids = count - 1 })
  parent_known count m is seen = record {
    meta =
        ap (λ (c : ℕ). Some (without_child_shown i (min (c - 1) 2147483647) m)) is
        ∙ ap (λ o. Some (without_child_shown i (min (siblings - 1) 2147483647) (unwrap_or o (meta_of 0 blank_node)))) seen
        ∙ ap Some (left_shown i now p u above)
        ∙ ap Some (sym (stat-count (shrunk now i p) (parent p) (without_child i u) (siblings - 1) fewer))
        ∙ sym (meta_there (shrunk now i p) (parent p) (without_child i u) at_parent);
    kids = ap (λ (c : ℕ). c - 1) is ∙ sym fewer;
  }

  pub else_same : (q : List ℕ) → bytes_eq p q ≡ false → bytes_eq (parent p) q ≡ false → IsSame now (shrunk now i p) q
  else_same q not_path not_parent =
      let same : fin.get (shrunk now i p) q ≡ fin.get now q =
      get-shrunk i now p u above q
      ∙ ap (λ b. cond b None (cond (eq_by_cmp path_cmp q (parent p)) (Some (without_child i u)) (fin.get now q))) (apart p q not_path)
      ∙ ap (λ b. cond b (Some (without_child i u)) (fin.get now q)) (apart (parent p) q not_parent) in
      let kids : length (children (shrunk now i p) q) ≡ length (children now q) = counted q ∙ count_else-gone now p u (without_child i u) u above child.1 q (apart (parent p) q not_parent) in
      record { meta = meta_same now (shrunk now i p) q same kids; kids = kids }

-- what was kept tells a path that is seen as before
pub still : (nodes now after : Nodes) (q : List ℕ) (o : Option Known) → IsSame now after q → Tells nodes now q o → Tells nodes after q o
still nodes now after q None same h = record { meta = same.meta ∙ h.meta; kids = same.kids ∙ h.kids }
still nodes now after q (Some k) same h = record { meta = h.meta ∙ sym same.meta; kids = h.kids ∙ sym same.kids }

-- the path and its parent are kept
pub draft_told : (nodes now after : Nodes) (p up q : List ℕ) (none left : Known) (o : Option Known) (a b : Bool) → bytes_eq p q ≡ a → bytes_eq up q ≡ b → IsKnown after p none → IsKnown after up left → (bytes_eq p q ≡ false → bytes_eq up q ≡ false → IsSame now after q) → Tells nodes now q o → Tells nodes after q (cond a (Some none) (cond b (Some left) o))
draft_told nodes now after p up q none left o true b e f at at_up same h = subst (λ r. IsKnown after r none) ((bytes_eq-Decides p q).0 e) at
draft_told nodes now after p up q none left o false true e f at at_up same h = subst (λ r. IsKnown after r left) ((bytes_eq-Decides up q).0 f) at_up
draft_told nodes now after p up q none left o false false e f at at_up same h = still nodes now after q o (same e f) h

-- both facts together
pub on_ok_both : {X E : Type 0} {A B C : Type 0} (r : Result X E) → OnOk r A → OnOk r B → (A → B → C) → OnOk r C
on_ok_both (Ok x) a b f = f a b
on_ok_both (Err e) a b f = tt

-- the numbers of a node that is there are seen
pub unseen : {A : Type 0} (now : Nodes) (p up : List ℕ) (over : Known) → up ≡ parent p → IsSome (fin.get now (parent p)) → IsKnown now up over → over.meta ≡ None → A
unseen now p up over is above known none =
    no false refl (sym (ap is_some (sym (ap (fin.get now) is) ∙ meta_none now up (sym none ∙ known.meta))) ∙ above)

something : (o : Option Node) → IsSome o → (n : Node) × (o ≡ Some n)
something None h = no false refl h
something (Some n) h = (n, refl)

-- a node goes
module _ {Z : Type 0} (i id : ℕ) (nodes : Nodes) (es after : List Effect) (kept new : List (String Z × Known)) (p up : List ℕ) (is_up : up ≡ parent p) (child : IsChildPath p)
    (there : IsSome (fin.get (effected_nodes_by nodes es) p)) (above : IsSome (fin.get (effected_nodes_by nodes es) (parent p)))
    (here over : Known) (m : Meta) (known : IsKnown (effected_nodes_by nodes es) p here) (known_up : IsKnown (effected_nodes_by nodes es) up over) (seen : Some m ≡ over.meta)
    (pushed : after ≡ es ++ effect.Remove p (without_child_shown i (min (over.kids - 1) 2147483647) m) id ∷ []) where
  abbrev now : Nodes
  now = effected_nodes_by nodes es

  abbrev none : Known
  none = record { meta = None; kids = here.kids }

  abbrev left : Known
  left = record { meta = Some (without_child_shown i (min (over.kids - 1) 2147483647) m); kids = over.kids - 1 }

  shown : Some m ≡ meta_at now (parent p)
  shown = seen ∙ known_up.meta ∙ ap (meta_at now) is_up

  siblings_are : over.kids ≡ length (children now (parent p))
  siblings_are = known_up.kids ∙ ap (λ q. length (children now q)) is_up

  effect_is : effect.Remove p (without_child_shown i (min (over.kids - 1) 2147483647) m) id ≡ removal i id now p
  effect_is =
      ap (λ (c : ℕ). effect.Remove p (without_child_shown i (min (c - 1) 2147483647) m) id) siblings_are
      ∙ ap (λ o. effect.Remove p (without_child_shown i (min (length (children now (parent p)) - 1) 2147483647) (unwrap_or o (meta_of 0 blank_node))) id) shown

  pub pushed_is : after ≡ es ++ removal i id now p ∷ []
  pushed_is = pushed ∙ ap (λ e. es ++ e ∷ []) effect_is

  pub draft_removed : ((q : List ℕ) → known_at new q ≡ cond (bytes_eq p q) (Some (record { meta = None; kids = here.kids })) (cond (bytes_eq up q) (Some (record { meta = Some (without_child_shown i (min (over.kids - 1) 2147483647) m); kids = over.kids - 1 })) (known_at kept q))) → IsDraft nodes es kept → IsDraft nodes after new
  draft_removed keeps h = λ q.
      let n = something (fin.get now p) there in
      let u = something (fin.get now (parent p)) above in
      let next : effected_nodes_by nodes after ≡ shrunk now i p = ap (effected_nodes_by nodes) pushed_is ∙ effected-push nodes es (removal i id now p) ∙ removal_nodes i id now p u.0 u.1 in
      subst (λ z. Tells nodes z q (known_at new q)) (sym next) (
      subst (Tells nodes (shrunk now i p) q) (sym (keeps q)) (
      draft_told nodes now (shrunk now i p) p up q none left (known_at kept q) (bytes_eq p q) (bytes_eq up q) refl refl
      (path_known i now p u.0 n.0 u.1 n.1 child here.kids known.kids)
      (subst (λ r. IsKnown (shrunk now i p) r left) (sym is_up) (parent_known i now p u.0 n.0 u.1 n.1 child over.kids m siblings_are shown))
      (λ e f. else_same i now p u.0 n.0 u.1 n.1 child q e (ap (λ r. bytes_eq r q) (sym is_up) ∙ f))
      (h q)))
