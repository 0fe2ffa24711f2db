-- What an effect tells of each path is what is there behind it.
use Rattle.std.proofs.Common.{◌≡◌, ℕ, ◌+◌, ◌-◌, Bool, true, false, cond, List, [], ◌∷◌, ◌++◌, Option, Some, None, IsSome, refl, ap, sym, subst, ◌∙◌}
use Rattle.std.specs.Prelude.{unwrap_or, String, Result, Ok, Err, OnOk, IfOk}
use Rattle.std.specs.Ordering.{eq_by_cmp, is_eq}
use Rattle.std.specs.Str.{bytes_eq}
use Rattle.std.specs.FinMap as fin
use Rattle.std.proofs.lemmas.Cmp.{tied_itself}
use Rattle.std.proofs.lemmas.Slice.Eq.{bytes_eq-Decides}
use Rattle.kp_model.specs.declared.node.Acl.{Acl}
use Rattle.kp_model.specs.declared.node.Meta.{Meta}
use Rattle.kp_model.specs.declared.node.Node.{Node}
use Rattle.kp_model.specs.Path.{root, parent}
use Rattle.kp_model.specs.Poured.{node_of}
use Rattle.kp_model.specs.State.{State, Nodes, path_cmp, meta_at, acl_at, stat}
use Rattle.kp_model.specs.Step.{Outcome, changed}
use Rattle.kp_cells.specs.Parts.{Parts, parts_of}
use Rattle.kp_cells.proofs.Maps.{no, tied, get-mapped}
use Rattle.kp_draft.specs.declared.draft.Known.{Known}
use Rattle.kp_act.specs.declared.plan.Act.{Act}
use Rattle.kp_act.specs.declared.plan.Effect.{Effect}
use Rattle.kp_act.specs.declared.plan.Effect.TheVariants as effect
use Rattle.kp_draft.specs.Behind.{brood, meta_behind, brood_behind, acl_behind, Tells, list_at, Notes, NotesOne, Lists, IsBehind}
use Rattle.kp_draft.specs.Drafts.{IsKnown, IsSame, IsDraft, known_at}
use Rattle.kp_draft.specs.Drafts as drafts
use Rattle.kp_act.specs.Effects.{IsFamily, IsFit, IsOn, Suits, IsAct, effected, effected_nodes}
use Rattle.kp_act.specs.Several.{effected_nodes_by}
use Rattle.kp_draft.proofs.Drafted.{effected-push, draft_told, still, kept_some, kept_none}
use Rattle.kp_cells.proofs.Kids.{count-over, count_up-made, count_else-made, count_up-gone, count_else-gone}
use Rattle.kp_cells.proofs.Paths.{path_total, path_same, own_parent_apart}

-- the two tests of paths
same_test : (p q : List ℕ) → eq_by_cmp path_cmp q p ≡ bytes_eq p q
same_test p q = decide (eq_by_cmp path_cmp q p) (bytes_eq p q) refl refl where
  decide : (a b : Bool) → eq_by_cmp path_cmp q p ≡ a → bytes_eq p q ≡ b → a ≡ b
  decide true true e f = refl
  decide false false e f = refl
  decide true false e f = no (bytes_eq p q) f ((bytes_eq-Decides p q).1 (sym (tied path_same q p e)))
  decide false true e f = no (eq_by_cmp path_cmp q p) e (ap (eq_by_cmp path_cmp q) ((bytes_eq-Decides p q).0 f) ∙ ap is_eq (tied_itself path_total q))

got-insert : {X : Type 0} (m : fin.FinMap path_cmp X) (p : List ℕ) (x : X) (q : List ℕ) → fin.get (fin.insert m p x) q ≡ cond (bytes_eq p q) (Some x) (fin.get m q)
got-insert m p x q = fin.get-insert path_total m p x q ∙ ap (λ b. cond b (Some x) (fin.get m q)) (same_test p q)

got-remove : {X : Type 0} (m : fin.FinMap path_cmp X) (p q : List ℕ) → fin.get (fin.remove m p) q ≡ cond (bytes_eq p q) None (fin.get m q)
got-remove m p q = fin.get-remove path_total m p q ∙ ap (λ b. cond b None (fin.get m q)) (same_test p q)

-- what is shown is in the parts
meta_part : (s : State) (q : List ℕ) → fin.get (parts_of s).metas q ≡ meta_at s.nodes q
unfolding parts_of meta_at
meta_part s q = get-mapped path_total path_same (stat s.nodes) s.nodes q

acl_part : (s : State) (q : List ℕ) → fin.get (parts_of s).acls q ≡ acl_at s.nodes q
unfolding parts_of acl_at
acl_part s q = get-mapped path_total path_same (λ _ (n : Node). n.acl) s.nodes q

metas_effected : (s : State) (e : Effect) (q : List ℕ) → fin.get (effected (parts_of s) e).metas q ≡ meta_behind s.nodes e q
metas_effected s effect.Nothing q = meta_part s q
metas_effected s (effect.Make path bytes acl meta up) q =
    got-insert (fin.insert (parts_of s).metas (parent path) up) path meta q
    ∙ ap (cond (bytes_eq path q) (Some meta)) (got-insert (parts_of s).metas (parent path) up q ∙ ap (cond (bytes_eq (parent path) q) (Some up)) (meta_part s q))
metas_effected s (effect.Remove path up owner) q =
    got-remove (fin.insert (parts_of s).metas (parent path) up) path q
    ∙ ap (cond (bytes_eq path q) None) (got-insert (parts_of s).metas (parent path) up q ∙ ap (cond (bytes_eq (parent path) q) (Some up)) (meta_part s q))
metas_effected s (effect.Set path bytes meta) q = got-insert (parts_of s).metas path meta q ∙ ap (cond (bytes_eq path q) (Some meta)) (meta_part s q)
metas_effected s (effect.SetAcl path acl meta) q = got-insert (parts_of s).metas path meta q ∙ ap (cond (bytes_eq path q) (Some meta)) (meta_part s q)

acls_effected : (s : State) (e : Effect) (q : List ℕ) → fin.get (effected (parts_of s) e).acls q ≡ acl_behind s.nodes e q
acls_effected s effect.Nothing q = acl_part s q
acls_effected s (effect.Make path bytes acl meta up) q = got-insert (parts_of s).acls path acl q ∙ ap (cond (bytes_eq path q) (Some acl)) (acl_part s q)
acls_effected s (effect.Remove path up owner) q = got-remove (parts_of s).acls path q ∙ ap (cond (bytes_eq path q) None) (acl_part s q)
acls_effected s (effect.Set path bytes meta) q = acl_part s q
acls_effected s (effect.SetAcl path acl meta) q = got-insert (parts_of s).acls path acl q ∙ ap (cond (bytes_eq path q) (Some acl)) (acl_part s q)

-- ---- the counts

something : (o : Option Node) → IsSome o → (n : Node) × (o ≡ Some n)
something None h = no false refl h
something (Some n) h = (n, refl)

changed_is : (nodes : Nodes) (f : Node → Node) (p : List ℕ) (u : Node) → fin.get nodes p ≡ Some u → changed f p (fin.get nodes p) nodes ≡ fin.insert nodes p (f u)
changed_is nodes f p u there = ap (λ o. changed f p o nodes) there

-- behind a change of a node that is there
brood_over : (nodes : Nodes) (f : Node → Node) (p q : List ℕ) → IsSome (fin.get nodes p) → brood (changed f p (fin.get nodes p) nodes) q ≡ brood nodes q
brood_over nodes f p q h =
    let u = something (fin.get nodes p) h in
    ap (λ z. brood z q) (changed_is nodes f p u.0 u.1) ∙ count-over nodes p u.0 (f u.0) q u.1

-- at the parent, and elsewhere
split_brood : (now nodes : Nodes) (up q : List ℕ) (there : ℕ) (b : Bool) → bytes_eq up q ≡ b → brood now up ≡ there → (eq_by_cmp path_cmp q up ≡ false → brood now q ≡ brood nodes q) → brood now q ≡ cond b there (brood nodes q)
split_brood now nodes up q there true e at else_ = ap (brood now) (sym ((bytes_eq-Decides up q).0 e)) ∙ at
split_brood now nodes up q there false e at else_ = else_ (same_test up q ∙ e)

-- the count at a path is that of an equal one
moved : (nodes : Nodes) (up q : List ℕ) (f : ℕ → ℕ) (b : Bool) → bytes_eq up q ≡ b → cond b (f (brood nodes up)) (brood nodes q) ≡ cond b (f (brood nodes q)) (brood nodes q)
moved nodes up q f true e = ap (λ p. f (brood nodes p)) ((bytes_eq-Decides up q).0 e)
moved nodes up q f false e = refl

broods_effected : (nodes : Nodes) (e : Effect) (q : List ℕ) → IsFit e → Suits nodes e → brood (effected_nodes nodes e) q ≡ brood_behind nodes e q
broods_effected nodes effect.Nothing q fit suits = refl
broods_effected nodes (effect.Make path bytes acl meta up) q fit suits =
    let u = something (fin.get nodes (parent path)) suits.1 in
    let v : Node = node_of u.0.bytes u.0.acl up in
    let w : Node = node_of bytes acl meta in
    let now : Nodes = fin.insert (fin.insert nodes (parent path) v) path w in
    ap (λ z. brood (fin.insert z path w) q) (changed_is nodes (λ (n : Node). node_of n.bytes n.acl up) (parent path) u.0 u.1)
    ∙ split_brood now nodes (parent path) q (brood nodes (parent path) + 1) (bytes_eq (parent path) q) refl
    (count_up-made nodes path u.0 v w u.1 fit.child.1 suits.0)
    (λ h. count_else-made nodes path u.0 v w u.1 fit.child.1 q h)
    ∙ moved nodes (parent path) q (λ n. n + 1) (bytes_eq (parent path) q) refl
broods_effected nodes (effect.Remove path up owner) q fit suits =
    let u = something (fin.get nodes (parent path)) suits.1 in
    let n = something (fin.get nodes path) suits.0 in
    let v : Node = node_of u.0.bytes u.0.acl up in
    let now : Nodes = fin.remove (fin.insert nodes (parent path) v) path in
    ap (λ z. brood (fin.remove z path) q) (changed_is nodes (λ (n : Node). node_of n.bytes n.acl up) (parent path) u.0 u.1)
    ∙ split_brood now nodes (parent path) q (brood nodes (parent path) - 1) (bytes_eq (parent path) q) refl
    (count_up-gone nodes path u.0 v v u.1 fit.child.1 n.0 n.1)
    (λ h. count_else-gone nodes path u.0 v v u.1 fit.child.1 q h)
    ∙ moved nodes (parent path) q (λ n. n - 1) (bytes_eq (parent path) q) refl
broods_effected nodes (effect.Set path bytes meta) q fit suits = brood_over nodes (λ (n : Node). node_of bytes n.acl meta) path q suits
broods_effected nodes (effect.SetAcl path acl meta) q fit suits = brood_over nodes (λ (n : Node). node_of n.bytes acl meta) path q suits

pub fit_on : (path : List ℕ) (e : Effect) → IsOn path e → IsFit e
fit_on path effect.Nothing h = tt
fit_on path (effect.Make q bytes acl meta up) h = h.1
fit_on path (effect.Remove q up owner) h = h.1
fit_on path (effect.Set q bytes meta) h = h.1
fit_on path (effect.SetAcl q acl meta) h = h.1

-- what an act does tells each path
pub act_tells : (path : List ℕ) (s : State) (o : Outcome) (a : Act) → IsAct path s o a → Tells s.nodes a.effect
act_tells path s o a h = record {
  metas = λ q. ap (λ z. meta_at z q) h.nodes ∙ sym (meta_part o.state q) ∙ sym (ap (λ (p : Parts). fin.get p.metas q) h.parts) ∙ metas_effected s a.effect q;
  broods = λ q. broods_effected s.nodes a.effect q (fit_on path a.effect h.on) h.suits;
  acls = λ q. ap (λ z. acl_at z q) h.nodes ∙ sym (acl_part o.state q) ∙ sym (ap (λ (p : Parts). fin.get p.acls q) h.parts) ∙ acls_effected s a.effect q;
}

-- ---- what is kept behind an effect more

own : (p : List ℕ) → bytes_eq p p ≡ true
own p = (bytes_eq-Decides p p).1 refl

up_apart : (p : List ℕ) → bytes_eq p root ≡ false → bytes_eq (parent p) p ≡ false
up_apart p deep = sym (same_test (parent p) p) ∙ own_parent_apart p deep

turned : (p q : List ℕ) → bytes_eq p q ≡ false → bytes_eq q p ≡ false
turned p q h = decide (bytes_eq q p) refl where
  decide : (b : Bool) → bytes_eq q p ≡ b → b ≡ false
  decide false e = refl
  decide true e = no (bytes_eq p q) h ((bytes_eq-Decides p q).1 (sym ((bytes_eq-Decides q p).0 e)))

list_kept : {Z : Type 0} (old new : List (String Z × Option (List Acl))) (q : List ℕ) (base is : Option (List Acl)) → list_at new q ≡ list_at old q → unwrap_or (list_at old q) base ≡ is → unwrap_or (list_at new q) base ≡ is
list_kept old new q base is same h = ap (λ o. unwrap_or o base) same ∙ h

list_noted : (o : Option (Option (List Acl))) (acl base is : Option (List Acl)) (b : Bool) → unwrap_or o base ≡ is → unwrap_or (cond b (Some acl) o) base ≡ cond b acl is
list_noted o acl base is true h = refl
list_noted o acl base is false h = h

module _ {Z : Type 0} (nodes : Nodes) (es : List Effect) (kept new : List (String Z × Known)) (lists after : List (String Z × Option (List Acl))) (h : IsBehind nodes es kept lists) where
  abbrev now : Nodes
  now = effected_nodes_by nodes es

  -- two paths are kept
  two : (e : Effect) (p : List ℕ) (meta : Option Meta) (up : Meta) (siblings : ℕ) → bytes_eq p root ≡ false → Tells now e
      → ((q : List ℕ) → meta_behind now e q ≡ cond (bytes_eq p q) meta (cond (bytes_eq (parent p) q) (Some up) (meta_at now q)))
      → brood_behind now e (parent p) ≡ siblings → ((q : List ℕ) → bytes_eq (parent p) q ≡ false → brood_behind now e q ≡ brood now q)
      → Notes kept new p (record { meta = meta; kids = brood now p }) (parent p) (record { meta = Some up; kids = siblings })
      → IsDraft nodes (es ++ e ∷ []) new
  two e p meta up siblings deep tells metas at_up elsewhere notes q =
      subst (λ z. drafts.Tells nodes z q (known_at new q)) (sym (effected-push nodes es e)) (
      subst (drafts.Tells nodes (effected_nodes now e) q) (sym (notes q)) (
      draft_told nodes now (effected_nodes now e) p (parent p) q (record { meta = meta; kids = brood now p }) (record { meta = Some up; kids = siblings }) (known_at kept q) (bytes_eq p q) (bytes_eq (parent p) q) refl refl
      (record {
        meta = sym (tells.metas p ∙ metas p ∙ ap (λ b. cond b meta (cond (bytes_eq (parent p) p) (Some up) (meta_at now p))) (own p));
        kids = sym (tells.broods p ∙ elsewhere p (up_apart p deep));
      })
      (record {
        meta = sym (tells.metas (parent p) ∙ metas (parent p) ∙ ap (λ b. cond b meta (cond (bytes_eq (parent p) (parent p)) (Some up) (meta_at now (parent p)))) (turned (parent p) p (up_apart p deep)) ∙ ap (λ b. cond b (Some up) (meta_at now (parent p))) (own (parent p)));
        kids = sym (tells.broods (parent p) ∙ at_up);
      })
      (λ a b. record {
        meta = tells.metas q ∙ metas q ∙ ap (λ c. cond c meta (cond (bytes_eq (parent p) q) (Some up) (meta_at now q))) a ∙ ap (λ c. cond c (Some up) (meta_at now q)) b;
        kids = tells.broods q ∙ elsewhere q b;
      })
      (h.draft q)))

  -- one path is kept
  one : (e : Effect) (p : List ℕ) (meta : Meta) → Tells now e
      → ((q : List ℕ) → meta_behind now e q ≡ cond (bytes_eq p q) (Some meta) (meta_at now q))
      → ((q : List ℕ) → brood_behind now e q ≡ brood now q)
      → NotesOne kept new p (record { meta = Some meta; kids = brood now p })
      → IsDraft nodes (es ++ e ∷ []) new
  one e p meta tells metas broods notes q =
      subst (λ z. drafts.Tells nodes z q (known_at new q)) (sym (effected-push nodes es e)) (
      subst (drafts.Tells nodes (effected_nodes now e) q) (sym (notes q)) (
      decide (bytes_eq p q) refl)) where
        decide : (b : Bool) → bytes_eq p q ≡ b → drafts.Tells nodes (effected_nodes now e) q (cond b (Some (record { meta = Some meta; kids = brood now p })) (known_at kept q))
        decide true is = record {
          meta = sym (tells.metas q ∙ metas q ∙ ap (λ b. cond b (Some meta) (meta_at now q)) is);
          kids = ap (brood now) ((bytes_eq-Decides p q).0 is) ∙ sym (tells.broods q ∙ broods q);
        }
        decide false is = still nodes now (effected_nodes now e) q (known_at kept q) (record {
          meta = tells.metas q ∙ metas q ∙ ap (λ b. cond b (Some meta) (meta_at now q)) is;
          kids = tells.broods q ∙ broods q;
        }) (h.draft q)

  -- a list is kept
  relisted : (e : Effect) (p : List ℕ) (acl : Option (List Acl)) → Tells now e → ((q : List ℕ) → acl_behind now e q ≡ cond (bytes_eq p q) acl (acl_at now q)) → Lists lists after p acl
      → (q : List ℕ) → unwrap_or (list_at after q) (acl_at nodes q) ≡ acl_at (effected_nodes_by nodes (es ++ e ∷ [])) q
  relisted e p acl tells acls notes q =
      ap (λ o. unwrap_or o (acl_at nodes q)) (notes q)
      ∙ list_noted (list_at lists q) acl (acl_at nodes q) (acl_at now q) (bytes_eq p q) (h.acls q)
      ∙ sym (acls q) ∙ sym (tells.acls q)
      ∙ ap (λ z. acl_at z q) (sym (effected-push nodes es e))

  -- no list is kept
  unlisted : (e : Effect) → Tells now e → ((q : List ℕ) → acl_behind now e q ≡ acl_at now q)
      → (q : List ℕ) → unwrap_or (list_at lists q) (acl_at nodes q) ≡ acl_at (effected_nodes_by nodes (es ++ e ∷ [])) q
  unlisted e tells acls q = h.acls q ∙ sym (acls q) ∙ sym (tells.acls q) ∙ ap (λ z. acl_at z q) (sym (effected-push nodes es e))

  pub behind_nothing : IsBehind nodes (es ++ effect.Nothing ∷ []) kept lists
  behind_nothing =
      let same : effected_nodes_by nodes (es ++ effect.Nothing ∷ []) ≡ now = effected-push nodes es effect.Nothing in
      record {
        draft = λ q. subst (λ z. drafts.Tells nodes z q (known_at kept q)) (sym same) (h.draft q);
        acls = λ q. h.acls q ∙ ap (λ z. acl_at z q) (sym same);
      }

  pub behind_made : (p bytes : List ℕ) (acl : List Acl) (meta up : Meta) → IsFamily p → Tells now (effect.Make p bytes acl meta up)
      → Notes kept new p (record { meta = Some meta; kids = brood now p }) (parent p) (record { meta = Some up; kids = brood now (parent p) + 1 })
      → Lists lists after p (Some acl) → IsBehind nodes (es ++ effect.Make p bytes acl meta up ∷ []) new after
  behind_made p bytes acl meta up fit tells notes listed = record {
    draft = two (effect.Make p bytes acl meta up) p (Some meta) up (brood now (parent p) + 1) fit.child.1 tells (λ q. refl)
        (ap (λ b. cond b (brood now (parent p) + 1) (brood now (parent p))) (own (parent p)))
        (λ q b. ap (λ c. cond c (brood now q + 1) (brood now q)) b) notes;
    acls = relisted (effect.Make p bytes acl meta up) p (Some acl) tells (λ q. refl) listed;
  }

  pub behind_removed : (p : List ℕ) (up : Meta) (owner : ℕ) → IsFamily p → Tells now (effect.Remove p up owner)
      → Notes kept new p (record { meta = None; kids = brood now p }) (parent p) (record { meta = Some up; kids = brood now (parent p) - 1 })
      → Lists lists after p None → IsBehind nodes (es ++ effect.Remove p up owner ∷ []) new after
  behind_removed p up owner fit tells notes listed = record {
    draft = two (effect.Remove p up owner) p None up (brood now (parent p) - 1) fit.child.1 tells (λ q. refl)
        (ap (λ b. cond b (brood now (parent p) - 1) (brood now (parent p))) (own (parent p)))
        (λ q b. ap (λ c. cond c (brood now q - 1) (brood now q)) b) notes;
    acls = relisted (effect.Remove p up owner) p None tells (λ q. refl) listed;
  }

  pub behind_set : (p bytes : List ℕ) (meta : Meta) → Tells now (effect.Set p bytes meta) → NotesOne kept new p (record { meta = Some meta; kids = brood now p }) → IsBehind nodes (es ++ effect.Set p bytes meta ∷ []) new lists
  behind_set p bytes meta tells notes = record {
    draft = one (effect.Set p bytes meta) p meta tells (λ q. refl) (λ q. refl) notes;
    acls = unlisted (effect.Set p bytes meta) tells (λ q. refl);
  }

  pub behind_relisted : (p : List ℕ) (acl : List Acl) (meta : Meta) → Tells now (effect.SetAcl p acl meta) → NotesOne kept new p (record { meta = Some meta; kids = brood now p }) → Lists lists after p (Some acl) → IsBehind nodes (es ++ effect.SetAcl p acl meta ∷ []) new after
  behind_relisted p acl meta tells notes listed = record {
    draft = one (effect.SetAcl p acl meta) p meta tells (λ q. refl) (λ q. refl) notes;
    acls = relisted (effect.SetAcl p acl meta) p (Some acl) tells (λ q. refl) listed;
  }

-- nothing is done, and nothing is kept
pub behind_blank : {Z : Type 0} (nodes : Nodes) (es : List Effect) (kept : List (String Z × Known)) (lists : List (String Z × Option (List Acl))) → es ≡ [] → IsDraft nodes es kept → lists ≡ [] → IsBehind nodes es kept lists
unfolding effected_nodes_by
behind_blank {Z = Z} nodes es kept lists none draft empty = record {
  draft = draft;
  acls = λ q. ap (λ (l : List (String Z × Option (List Acl))). unwrap_or (list_at l q) (acl_at nodes q)) empty ∙ ap (λ z. acl_at (effected_nodes_by nodes z) q) (sym none);
}

-- what an answer that is none leads to
pub on_ok_then : {X E : Type 0} {A C : Type 0} (r : Result X E) → OnOk r A → (A → C) → OnOk r C
on_ok_then (Ok x) a f = f a
on_ok_then (Err e) a f = tt

-- what two facts about a value lead to
pub if_ok_both : {X E : Type 0} (P Q R : X → Type 0) (r : Result X E) → IfOk r P → IfOk r Q → ((x : X) → P x → Q x → R x) → IfOk r R
if_ok_both P Q R (Ok x) p q f = f x p q
if_ok_both P Q R (Err e) p q f = tt

-- ---- a look behind the effects

-- what is kept of a path is what is shown of it
pub meta_kept : {Z : Type 0} (nodes : Nodes) (es : List Effect) (kept : List (String Z × Known)) (q : List ℕ) (k : Known) → IsDraft nodes es kept → Some k ≡ known_at kept q → k.meta ≡ meta_at (effected_nodes_by nodes es) q
meta_kept nodes es kept q k h e = (kept_some nodes es kept q k h e).meta

-- and where nothing is kept, it is what was shown
pub meta_unkept : {Z : Type 0} (nodes : Nodes) (es : List Effect) (kept : List (String Z × Known)) (q : List ℕ) → IsDraft nodes es kept → None ≡ known_at kept q → meta_at nodes q ≡ meta_at (effected_nodes_by nodes es) q
meta_unkept nodes es kept q h e = (kept_none nodes es kept q (record { meta = meta_at nodes q; kids = brood nodes q }) h e (record { meta = refl; kids = refl })).meta
