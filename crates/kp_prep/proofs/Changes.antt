-- The changes of a plan, set in their order.
use Rattle.std.proofs.Common.{◌≡◌, ℕ, Bool, true, false, cond, ◌&&◌, List, [], ◌∷◌, ◌++◌, length, Option, Some, None, refl, ap, sym, subst, ◌∙◌, append_assoc, append-nil, arith}
use Rattle.std.specs.Prelude.{Result, Ok, Err, IfOk, IsTrue, unwrap_or}
use Rattle.std.specs.List.{All, list_all}
use Rattle.std.specs.Ordering.{eq_by_cmp}
use Rattle.std.proofs.lemmas.List.Elements.{All-head, All-tail}
use Rattle.std.proofs.lemmas.List.Folds.{list_all-append}
use Rattle.std.specs.FinMap as map
use Rattle.kp_layers.specs.Overlay.{put}
use Rattle.kp_model.specs.declared.node.Acl.{Acl}
use Rattle.kp_model.specs.declared.node.Meta.{Meta}
use Rattle.kp_model.specs.declared.node.Node.{Node}
use Rattle.kp_model.specs.declared.session.Session.{Session}
use Rattle.kp_model.specs.Good.{IsGood}
use Rattle.kp_model.specs.Grammar.{is_length}
use Rattle.kp_model.specs.Path.{parent}
use Rattle.kp_model.specs.Poured.{node_of}
use Rattle.kp_model.specs.State.{State, Nodes, Sessions, path_cmp, bytes_at, acl_at}
use Rattle.kp_model.specs.Step.{Outcome, changed}
use Rattle.kp_model.specs.Touched.{Touched}
use Rattle.kp_cells.proofs.Maps.{not_some}
use Rattle.kp_cells.specs.Parts.{Parts, parts_of}
use Rattle.kp_cells.specs.declared.change.Change.{Change}
use Rattle.kp_cells.specs.declared.change.Change.TheVariants as change
use Rattle.kp_prep.specs.declared.deciding.Decided.{Decided}
use Rattle.kp_act.specs.declared.plan.Effect.{Effect}
use Rattle.kp_act.specs.declared.plan.Effect.TheVariants as effect
use Rattle.kp_act.specs.declared.plan.Plan.{Plan}
use Rattle.kp_prep.specs.Changing.{session_set, set_one, set_all, fits_change, renumbered_value, refilled_value, relisted_value, node_changes, effect_changes, session_changes, next_changes, plan_changes, effects_changes}
use Rattle.kp_act.specs.Effects.{FitsData, effected, renumbered, effected_nodes}
use Rattle.kp_prep.specs.Ledgers.{nodes_behind}
use Rattle.kp_act.specs.Plans.{IsPlan, settled, next_after}
use Rattle.kp_act.specs.Several.{effected_by, effected_nodes_by}
use Rattle.kp_cells.proofs.Paths.{path_total}
use Rattle.kp_act.proofs.Seen.{absent, present}

-- no list is lent where there is no node
pub refilled_none : (nodes : Nodes) (p bytes : List ℕ) (m : Meta) → None ≡ acl_at nodes p → None ≡ refilled_value bytes m (map.get nodes p)
unfolding acl_at
refilled_none nodes p bytes m e = sym (ap (refilled_value bytes m) (absent (λ (n : Node). n.acl) (map.get nodes p) e))

-- the list that is lent is the node's
pub refilled_some : (nodes : Nodes) (p b bytes : List ℕ) (m : Meta) (a acl : List Acl) → b ≡ bytes → a ≡ acl → Some acl ≡ acl_at nodes p → Some (record { bytes = b; acl = a; meta = m }) ≡ refilled_value bytes m (map.get nodes p)
unfolding acl_at
refilled_some nodes p b bytes m a acl same_bytes same_acl e =
    let found = present (λ (n : Node). n.acl) (map.get nodes p) acl e in
    (λ j. Some (record { bytes = same_bytes j; acl = (same_acl ∙ found.2) j; meta = m })) ∙ sym (ap (refilled_value bytes m) found.1)

-- no data is lent where there is no node
pub renumbered_none : (nodes : Nodes) (p : List ℕ) (m : Meta) → None ≡ bytes_at nodes p → None ≡ renumbered_value m (map.get nodes p)
unfolding bytes_at
renumbered_none nodes p m e = sym (ap (renumbered_value m) (absent (λ (n : Node). n.bytes) (map.get nodes p) e))

-- a node with the data that is lent is the node with its own
pub refilled_again : (nodes : Nodes) (p b bytes : List ℕ) (m : Meta) → b ≡ bytes → Some bytes ≡ bytes_at nodes p → refilled_value b m (map.get nodes p) ≡ renumbered_value m (map.get nodes p)
unfolding bytes_at
refilled_again nodes p b bytes m same e =
    let found = present (λ (n : Node). n.bytes) (map.get nodes p) bytes e in
    ap (refilled_value b m) found.1
    ∙ (λ j. Some (record { bytes = (same ∙ found.2) j; acl = found.0.acl; meta = m }))
    ∙ sym (ap (renumbered_value m) found.1)

-- no data is lent where there is no node
pub relisted_none : (nodes : Nodes) (p : List ℕ) (acl : List Acl) (m : Meta) → None ≡ bytes_at nodes p → None ≡ relisted_value acl m (map.get nodes p)
unfolding bytes_at
relisted_none nodes p acl m e = sym (ap (relisted_value acl m) (absent (λ (n : Node). n.bytes) (map.get nodes p) e))

-- the data that is lent is the node's
pub relisted_some : (nodes : Nodes) (p b bytes : List ℕ) (acl : List Acl) (m : Meta) → b ≡ bytes → Some bytes ≡ bytes_at nodes p → Some (record { bytes = b; acl = acl; meta = m }) ≡ relisted_value acl m (map.get nodes p)
unfolding bytes_at
relisted_some nodes p b bytes acl m same e =
    let found = present (λ (n : Node). n.bytes) (map.get nodes p) bytes e in
    (λ j. Some (record { bytes = (same ∙ found.2) j; acl = acl; meta = m })) ∙ sym (ap (relisted_value acl m) found.1)

-- changes that are set one after the other
pub set_append : (s : State) (a b : List Change) → set_all s (a ++ b) ≡ set_all (set_all s a) b
unfolding set_all
set_append s [] b = refl
set_append s (c ∷ a) b = set_append (set_one s c) a b

session_one : (s : State) (id : ℕ) (x : Option Session) → session_set s id x ≡ record s { sessions = put s.sessions id x }
session_one s id None = refl
session_one s id (Some x) = refl

session_all : (s : State) (x : Option (ℕ × Option Session)) → set_all s (session_changes x) ≡ record s { sessions = settled s.sessions x }
unfolding set_all
session_all s None = refl
session_all s (Some x) = session_one s x.0 x.1

next_all : (s : State) (n : Option ℕ) → set_all s (next_changes n) ≡ record s { next = next_after s.next n }
unfolding set_all
next_all s None = refl
next_all s (Some n) = refl

-- the parent's numbers, and then one change more
up_then : (s : State) (q : List ℕ) (m : Meta) (o : Option Node) (c : Change) → set_all s (node_changes q (renumbered_value m o) ++ c ∷ []) ≡ set_one (record s { nodes = changed (λ n. node_of n.bytes n.acl m) q o s.nodes }) c
unfolding set_all
up_then s q m None c = refl
up_then s q m (Some n) c = refl

refilled_all : (s : State) (q bytes : List ℕ) (m : Meta) (o : Option Node) → set_all s (node_changes q (refilled_value bytes m o)) ≡ record s { nodes = changed (λ n. node_of bytes n.acl m) q o s.nodes }
unfolding set_all
refilled_all s q bytes m None = refl
refilled_all s q bytes m (Some n) = refl

relisted_all : (s : State) (q : List ℕ) (acl : List Acl) (m : Meta) (o : Option Node) → set_all s (node_changes q (relisted_value acl m o)) ≡ record s { nodes = changed (λ n. node_of n.bytes acl m) q o s.nodes }
unfolding set_all
relisted_all s q acl m None = refl
relisted_all s q acl m (Some n) = refl

effect_all : (s : State) (e : Effect) → set_all s (effect_changes s.nodes e) ≡ record s { nodes = effected_nodes s.nodes e }
unfolding set_all
effect_all s effect.Nothing = refl
effect_all s (effect.Make path bytes acl meta up) = up_then s (parent path) up (map.get s.nodes (parent path)) (change.Node path (Some (record { bytes = bytes; acl = acl; meta = meta })))
effect_all s (effect.Remove path up owner) = up_then s (parent path) up (map.get s.nodes (parent path)) (change.Node path None)
effect_all s (effect.Set path bytes meta) = refilled_all s path bytes meta (map.get s.nodes path)
effect_all s (effect.SetAcl path acl meta) = relisted_all s path acl meta (map.get s.nodes path)

-- the changes of effects, each on the nodes after those before it
effects_all : (s : State) (es : List Effect) → set_all s (effects_changes s.nodes es) ≡ record s { nodes = effected_nodes_by s.nodes es }
unfolding effects_changes effected_nodes_by set_all
effects_all s [] = refl
effects_all s (e ∷ es) =
    set_append s (effect_changes s.nodes e) (effects_changes (effected_nodes s.nodes e) es)
    ∙ ap (λ z. set_all z (effects_changes (effected_nodes s.nodes e) es)) (effect_all s e)
    ∙ effects_all (record s { nodes = effected_nodes s.nodes e }) es

-- the changes of one effect more are pushed
pub pushed_more : (s : State) (old new : List Change) (e : Effect) (es rest : List Effect) → es ≡ e ∷ rest → new ≡ old ++ effect_changes (nodes_behind s old) e → new ++ effects_changes (nodes_behind s new) rest ≡ old ++ effects_changes (nodes_behind s old) es
unfolding effects_changes
pushed_more s old new e es rest is pushed =
    let now : Nodes = nodes_behind s old in
    let behind : nodes_behind s new ≡ effected_nodes now e = ap (nodes_behind s) pushed ∙ ap (λ (z : State). z.nodes) (set_append s old (effect_changes now e) ∙ effect_all (set_all s old) e) in
    ap (λ nodes. new ++ effects_changes nodes rest) behind
    ∙ ap (λ cs. cs ++ effects_changes (effected_nodes now e) rest) pushed
    ∙ append_assoc old (effect_changes now e) (effects_changes (effected_nodes now e) rest)
    ∙ ap (λ xs. old ++ effects_changes now xs) (sym is)

-- nothing is left to push
pub pushed_all : (s : State) (cs : List Change) (es : List Effect) → length es ≡ 0 → cs ++ effects_changes (nodes_behind s cs) es ≡ cs
unfolding effects_changes
pushed_all s cs [] none = append-nil cs
pushed_all s cs (e ∷ es) none = absurd (omega (arith, none))

-- a session and the next session number change no node
pub nodes_kept : (s : State) (x : Option (ℕ × Option Session)) (n : Option ℕ) (cs : List Change) → cs ≡ session_changes x ++ next_changes n → nodes_behind s cs ≡ s.nodes
nodes_kept s x n cs is = ap (λ (z : State). z.nodes) (
    ap (set_all s) is
    ∙ set_append s (session_changes x) (next_changes n)
    ∙ ap (λ z. set_all z (next_changes n)) (session_all s x)
    ∙ next_all (record s { sessions = settled s.sessions x }) n)

effected_sessions : (q : Parts) (e : Effect) → (effected q e).sessions ≡ q.sessions
effected_sessions q effect.Nothing = refl
effected_sessions q (effect.Make path bytes acl meta up) = refl
effected_sessions q (effect.Remove path up owner) = refl
effected_sessions q (effect.Set path bytes meta) = refl
effected_sessions q (effect.SetAcl path acl meta) = refl

effected_next : (q : Parts) (e : Effect) → (effected q e).next ≡ q.next
effected_next q effect.Nothing = refl
effected_next q (effect.Make path bytes acl meta up) = refl
effected_next q (effect.Remove path up owner) = refl
effected_next q (effect.Set path bytes meta) = refl
effected_next q (effect.SetAcl path acl meta) = refl

effected_sessions_by : (q : Parts) (es : List Effect) → (effected_by q es).sessions ≡ q.sessions
unfolding effected_by
effected_sessions_by q [] = refl
effected_sessions_by q (e ∷ es) = effected_sessions_by (effected q e) es ∙ effected_sessions q e

effected_next_by : (q : Parts) (es : List Effect) → (effected_by q es).next ≡ q.next
unfolding effected_by
effected_next_by q [] = refl
effected_next_by q (e ∷ es) = effected_next_by (effected q e) es ∙ effected_next q e

-- the changes of what an entry does make of a state the one behind it, but for the applied index
pub changes_set : (k : Touched) (s : State) (o : Outcome) (p : Plan) → IsPlan k s o p → set_all s (plan_changes s.nodes p) ≡ record o.state { applied = s.applied }
unfolding parts_of
changes_set k s o p h =
    let r : Sessions = settled s.sessions p.session in
    let n : ℕ = next_after s.next p.next in
    let z : State = record s { sessions = r; next = n } in
    let q : Parts = record (parts_of s) { sessions = r; next = n } in
    let e : List Change = effects_changes s.nodes p.effects in
    set_append s (session_changes p.session ++ next_changes p.next) e
    ∙ ap (λ x. set_all x e) (set_append s (session_changes p.session) (next_changes p.next)
    ∙ ap (λ x. set_all x (next_changes p.next)) (session_all s p.session)
    ∙ next_all (record s { sessions = r }) p.next)
    ∙ effects_all z p.effects
    ∙ (λ j. record {
      nodes = h.nodes j;
      sessions = (sym (effected_sessions_by q p.effects) ∙ ap (λ (x : Parts). x.sessions) h.parts) j;
      next = (sym (effected_next_by q p.effects) ∙ ap (λ (x : Parts). x.next) h.parts) j;
      applied = s.applied;
    })

-- the same of what was decided
pub decided_sets : {E : Type 0} (r : Result Decided E) (k : Touched) (s : State) (o : Outcome) (p : Plan) → IsPlan k s o p → IfOk r (λ d. d.changes ≡ plan_changes s.nodes p) → IfOk r (λ d. set_all s d.changes ≡ record o.state { applied = s.applied })
decided_sets (Ok d) k s o p h e = ap (set_all s) e ∙ changes_set k s o p h
decided_sets (Err f) k s o p h e = tt

all_fit : (a b : List Change) → IsTrue (list_all fits_change a) → IsTrue (list_all fits_change b) → IsTrue (list_all fits_change (a ++ b))
all_fit a b p q = list_all-append fits_change a b ∙ (λ j. p j && q j)

session_fits : (x : Option (ℕ × Option Session)) → IsTrue (list_all fits_change (session_changes x))
session_fits None = refl
session_fits (Some x) = refl

next_fits : (n : Option ℕ) → IsTrue (list_all fits_change (next_changes n))
next_fits None = refl
next_fits (Some n) = refl

-- the data of each node fits its length field
abbrev AllFit : Nodes → Type 0
AllFit nodes = (q : List ℕ) (n : Node) → map.get nodes q ≡ Some n → IsTrue (is_length (length n.bytes))

-- a node that has other numbers has the data that it had
renumbered_fits : (nodes : Nodes) → AllFit nodes → (q : List ℕ) (m : Meta) → IsTrue (list_all fits_change (node_changes q (renumbered_value m (map.get nodes q))))
renumbered_fits nodes fit q m = cases (map.get nodes q) refl where
  cases : (o : Option Node) → map.get nodes q ≡ o → IsTrue (list_all fits_change (node_changes q (renumbered_value m o)))
  cases None e = refl
  cases (Some n) e = ap (λ b. b && true) (fit q n e)

refilled_fits : (q bytes : List ℕ) (m : Meta) (o : Option Node) → IsTrue (is_length (length bytes)) → IsTrue (list_all fits_change (node_changes q (refilled_value bytes m o)))
refilled_fits q bytes m None h = refl
refilled_fits q bytes m (Some n) h = ap (λ b. b && true) h

-- a node that has another list has the data that it had
relisted_fits : (nodes : Nodes) → AllFit nodes → (q : List ℕ) (acl : List Acl) (m : Meta) → IsTrue (list_all fits_change (node_changes q (relisted_value acl m (map.get nodes q))))
relisted_fits nodes fit q acl m = cases (map.get nodes q) refl where
  cases : (o : Option Node) → map.get nodes q ≡ o → IsTrue (list_all fits_change (node_changes q (relisted_value acl m o)))
  cases None e = refl
  cases (Some n) e = ap (λ b. b && true) (fit q n e)

effect_fits : (nodes : Nodes) → AllFit nodes → (e : Effect) → FitsData e → IsTrue (list_all fits_change (effect_changes nodes e))
effect_fits nodes fit effect.Nothing h = refl
effect_fits nodes fit (effect.Make path bytes acl meta up) h = all_fit (node_changes (parent path) (renumbered_value up (map.get nodes (parent path)))) (change.Node path (Some (record { bytes = bytes; acl = acl; meta = meta })) ∷ []) (renumbered_fits nodes fit (parent path) up) (ap (λ b. b && true) h)
effect_fits nodes fit (effect.Remove path up owner) h = all_fit (node_changes (parent path) (renumbered_value up (map.get nodes (parent path)))) (change.Node path None ∷ []) (renumbered_fits nodes fit (parent path) up) refl
effect_fits nodes fit (effect.Set path bytes meta) h = refilled_fits path bytes meta (map.get nodes path) h
effect_fits nodes fit (effect.SetAcl path acl meta) h = relisted_fits nodes fit path acl meta

some_is : {X : Type 0} (x y : X) → Some x ≡ Some y → x ≡ y
some_is x y e = ap (λ o. unwrap_or o x) e

fit_insert : (nodes : Nodes) → AllFit nodes → (p : List ℕ) (v : Node) → IsTrue (is_length (length v.bytes)) → AllFit (map.insert nodes p v)
fit_insert nodes fit p v h = λ q n e. cases q n (eq_by_cmp path_cmp q p) (sym (map.get-insert path_total nodes p v q) ∙ e) where
  cases : (q : List ℕ) (n : Node) (b : Bool) → cond b (Some v) (map.get nodes q) ≡ Some n → IsTrue (is_length (length n.bytes))
  cases q n true f = subst (λ (x : Node). IsTrue (is_length (length x.bytes))) (some_is v n f) h
  cases q n false f = fit q n f

fit_remove : (nodes : Nodes) → AllFit nodes → (p : List ℕ) → AllFit (map.remove nodes p)
fit_remove nodes fit p = λ q n e. cases q n (eq_by_cmp path_cmp q p) (sym (map.get-remove path_total nodes p q) ∙ e) where
  cases : (q : List ℕ) (n : Node) (b : Bool) → cond b None (map.get nodes q) ≡ Some n → IsTrue (is_length (length n.bytes))
  cases q n true f = absurd (not_some (sym f))
  cases q n false f = fit q n f

fit_changed : (nodes : Nodes) → AllFit nodes → (f : Node → Node) (p : List ℕ) (o : Option Node) → ((n : Node) → o ≡ Some n → IsTrue (is_length (length (f n).bytes))) → AllFit (changed f p o nodes)
fit_changed nodes fit f p None h = fit
fit_changed nodes fit f p (Some n) h = fit_insert nodes fit p (f n) (h n refl)

-- and it does so after an effect
effect_keeps_fit : (nodes : Nodes) → AllFit nodes → (e : Effect) → FitsData e → AllFit (effected_nodes nodes e)
effect_keeps_fit nodes fit effect.Nothing h = fit
effect_keeps_fit nodes fit (effect.Make path bytes acl meta up) h = fit_insert (renumbered nodes (parent path) up) (fit_changed nodes fit (λ n. node_of n.bytes n.acl up) (parent path) (map.get nodes (parent path)) (fit (parent path))) path (node_of bytes acl meta) h
effect_keeps_fit nodes fit (effect.Remove path up owner) h = fit_remove (renumbered nodes (parent path) up) (fit_changed nodes fit (λ n. node_of n.bytes n.acl up) (parent path) (map.get nodes (parent path)) (fit (parent path))) path
effect_keeps_fit nodes fit (effect.Set path bytes meta) h = fit_changed nodes fit (λ n. node_of bytes n.acl meta) path (map.get nodes path) (λ n e. h)
effect_keeps_fit nodes fit (effect.SetAcl path acl meta) h = fit_changed nodes fit (λ n. node_of n.bytes acl meta) path (map.get nodes path) (fit path)

effects_fit : (nodes : Nodes) → AllFit nodes → (es : List Effect) → All FitsData es → IsTrue (list_all fits_change (effects_changes nodes es))
unfolding effects_changes
effects_fit nodes fit [] h = refl
effects_fit nodes fit (e ∷ es) h =
    let here : FitsData e = All-head FitsData e es h in
    all_fit (effect_changes nodes e) (effects_changes (effected_nodes nodes e) es) (effect_fits nodes fit e here) (effects_fit (effected_nodes nodes e) (effect_keeps_fit nodes fit e here) es (All-tail FitsData e es h))

plan_fits : (s : State) → IsGood s → (p : Plan) → All FitsData p.effects → IsTrue (list_all fits_change (plan_changes s.nodes p))
plan_fits s good p h = all_fit (session_changes p.session ++ next_changes p.next) (effects_changes s.nodes p.effects) (all_fit (session_changes p.session) (next_changes p.next) (session_fits p.session) (next_fits p.next)) (effects_fit s.nodes (λ q n e. (good.numbers q n e).bytes) p.effects h)

-- the data of what was decided fits
pub decided_fits : {E : Type 0} (r : Result Decided E) (s : State) (p : Plan) → IsGood s → All FitsData p.effects → IfOk r (λ d. d.changes ≡ plan_changes s.nodes p) → IfOk r (λ d. IsTrue (list_all fits_change d.changes))
decided_fits (Ok d) s p good h e = subst (λ cs. IsTrue (list_all fits_change cs)) (sym e) (plan_fits s good p h)
decided_fits (Err f) s p good h e = tt
