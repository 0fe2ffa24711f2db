-- The operations of a multi, one after the other.
use Rattle.std.proofs.Common.{◌≡◌, ℕ, zero, suc, ◌+◌, ◌-◌, ◌<◌, ◌≤◌, Bool, true, false, ◌||◌, List, [], ◌∷◌, ◌++◌, length, Option, Some, None, is_some, refl, ap, sym, subst, ◌∙◌, arith}
use Rattle.std.specs.Prelude.{ℤ, map, IsTrue}
use Rattle.std.specs.List.{All}
use Rattle.std.specs.Option.{option_map_or}
use Rattle.std.specs.Str.{bytes_eq}
use Rattle.std.specs.FinMap as fin
use Rattle.std.proofs.Math.ListN.{get_or, drop}
use Rattle.std.proofs.lemmas.List.Elements.{All-nil, All-cons, All-append}
use Rattle.std.proofs.lemmas.List.Folds.{list_any-append}
use Rattle.std.proofs.lemmas.Slice.Eq.{bytes_eq-Decides}
use Rattle.kp_model.specs.declared.command.Op.{Op}
use Rattle.kp_model.specs.declared.command.Cmd.TheVariants as cmd
use Rattle.kp_model.specs.declared.entry.Body.TheVariants as body
use Rattle.kp_model.specs.declared.reply.Event.{Event}
use Rattle.kp_model.specs.declared.reply.OpReply.{OpReply}
use Rattle.kp_model.specs.declared.session.Session.{Session}
use Rattle.kp_model.specs.Path.{parent}
use Rattle.kp_model.specs.State.{State, Nodes}
use Rattle.kp_model.specs.Step.{Outcome, replies, act, act_on, error_of, op_reply, failure, stop_at, multi, with_seq}
use Rattle.kp_model.specs.Touched.{Touched, with_parents, path_of_op, paths_of_ops, ids_of, touched_at}
use Rattle.kp_cells.specs.Parts.{Parts, parts_of}
use Rattle.kp_cells.proofs.Maps.{no}
use Rattle.kp_act.specs.declared.plan.Act.{Act}
use Rattle.kp_act.specs.declared.plan.Plan.{Plan}
use Rattle.kp_act.specs.declared.plan.Effect.{Effect}
use Rattle.kp_act.specs.declared.plan.Effect.TheVariants as effect
use Rattle.kp_act.specs.Effects.{IsFit, FitsData, IsOn, IsAct, DoesOn, TellsOwner, effected, effected_nodes}
use Rattle.kp_act.specs.Looks.{HavePlaces}
use Rattle.kp_draft.specs.Multis.{IsRun, IsStep, IsEnd, multi_plan}
use Rattle.kp_act.specs.Plans.{IsPlan, session_plan}
use Rattle.kp_act.specs.Several.{effected_by, effected_nodes_by, TellOwners}
use Rattle.kp_act.specs.Among.{is_among, IsFamilyAmong, IsEffectAmong}
use Rattle.kp_draft.proofs.Drafted.{effected-push}
use Rattle.kp_act.proofs.Plans.{the_one, renewed_is}
use Rattle.kp_draft.proofs.Places.{act_on_places}
use Rattle.kp_draft.proofs.Telling.{fit_on}

-- ---- one effect more

parts-push : (p : Parts) (es : List Effect) (e : Effect) → effected_by p (es ++ e ∷ []) ≡ effected (effected_by p es) e
unfolding effected_by
parts-push p [] e = refl
parts-push p (x ∷ es) e = parts-push (effected p x) es e

owners-push : (p : Parts) (es : List Effect) (e : Effect) → TellOwners p es → TellsOwner (effected_by p es) e → TellOwners p (es ++ e ∷ [])
unfolding effected_by TellOwners
owners-push p [] e h tells = (tells, tt)
owners-push p (x ∷ es) e h tells = (h.0, owners-push (effected p x) es e h.1 tells)

all-push : {X : Type 0} (P : X → Type 0) (xs : List X) (x : X) → All P xs → P x → All P (xs ++ x ∷ [])
all-push P xs x h p = All-append P xs (x ∷ []) h (All-cons P x [] p (All-nil P))

-- ---- the paths

or_true : (b : Bool) → (b || true) ≡ true
or_true true = refl
or_true false = refl

path_in : (done rest : List (List ℕ)) (p : List ℕ) → IsTrue (is_among (done ++ p ∷ rest) p)
path_in [] rest p = ap (λ b. b || is_among rest p) ((bytes_eq-Decides p p).1 refl)
path_in (q ∷ done) rest p = ap (λ b. bytes_eq p q || b) (path_in done rest p) ∙ or_true (bytes_eq p q)

parent_in : (done rest : List (List ℕ)) (p : List ℕ) → IsTrue (is_among (map parent (done ++ p ∷ rest)) (parent p))
parent_in [] rest p = ap (λ b. b || is_among (map parent rest) (parent p)) ((bytes_eq-Decides (parent p) (parent p)).1 refl)
parent_in (q ∷ done) rest p = ap (λ b. bytes_eq (parent p) (parent q) || b) (parent_in done rest p) ∙ or_true (bytes_eq (parent p) (parent q))

family_in : (done rest : List (List ℕ)) (p : List ℕ) → IsFamilyAmong (with_parents (done ++ p ∷ rest)) p
family_in done rest p =
    let ps : List (List ℕ) = done ++ p ∷ rest in (
      list_any-append (bytes_eq p) ps (map parent ps) ∙ ap (λ b. b || is_among (map parent ps) p) (path_in done rest p),
      list_any-append (bytes_eq (parent p)) ps (map parent ps) ∙ ap (λ b. is_among ps (parent p) || b) (parent_in done rest p) ∙ or_true (is_among ps (parent p)),
    )

effect_in : (ps : List (List ℕ)) (path : List ℕ) (e : Effect) → IsFamilyAmong ps path → IsOn path e → IsEffectAmong ps e
effect_in ps path effect.Nothing f h = tt
effect_in ps path (effect.Make q bytes acl meta up) f h = subst (IsFamilyAmong ps) (sym h.0) f
effect_in ps path (effect.Remove q up owner) f h = subst (IsFamilyAmong ps) (sym h.0) f
effect_in ps path (effect.Set q bytes meta) f h = subst (λ p. IsTrue (is_among ps p)) (sym h.0) f.0
effect_in ps path (effect.SetAcl q acl meta) f h = subst (λ p. IsTrue (is_among ps p)) (sym h.0) f.0

append-assoc : {X : Type 0} (xs ys zs : List X) → xs ++ (ys ++ zs) ≡ (xs ++ ys) ++ zs
append-assoc [] ys zs = refl
append-assoc (x ∷ xs) ys zs = ap (◌∷◌ x) (append-assoc xs ys zs)

length-push : {X : Type 0} (xs : List X) (x : X) → length (xs ++ x ∷ []) ≡ suc (length xs)
length-push [] x = refl
length-push (y ∷ xs) x = ap suc (length-push xs x)

-- ---- one operation more

module _ (s : State) (session : ℕ) (ids : List (List ℕ)) (i t : ℕ) (ops : List Op) where
  -- no operation is done
  pub run_none : IsRun s session ids i t ops ops [] [] []
  unfolding effected_by effected_nodes_by TellOwners
  run_none = record {
    state = s;
    done = [];
    leads = refl;
    named = refl;
    count = omega arith;
    nodes = refl;
    parts = refl;
    owners = tt;
    fit = All-nil IsFit;
    fits = All-nil FitsData;
    paths = All-nil (IsEffectAmong (with_parents (paths_of_ops s session ids i t ops)));
    places = λ h. h;
  }

  module _ (rest : List Op) (o : Op) (es : List Effect) (answers : List OpReply) (events : List Event) (h : IsRun s session ids i t ops (o ∷ rest) es answers events) (a : Act)
      (acts : DoesOn (path_of_op (effected_nodes_by s.nodes es) o) (effected_nodes_by s.nodes es) (λ z. act_on z session ids i t o) a) where
    abbrev out : Outcome
    out = act_on h.state session ids i t o

    abbrev path : List ℕ
    path = path_of_op h.state.nodes o

    acted : IsAct path h.state out a
    acted = subst (λ n. IsAct (path_of_op n o) (record h.state { nodes = n }) (act_on (record h.state { nodes = n }) session ids i t o) a) h.nodes (acts h.state)

    goes_on : multi s h.state session ids i t answers events (o ∷ rest) ≡ stop_at (error_of a.prepared.reply) (λ code. replies s (failure (length answers) code (length rest))) (multi s out.state session ids i t (answers ++ op_reply a.prepared.reply ∷ []) (events ++ a.prepared.events) rest)
    unfolding multi
    goes_on =
        ap (λ r. stop_at (error_of r) (λ code. replies s (failure (length answers) code (length rest))) (multi s out.state session ids i t (answers ++ op_reply r ∷ []) (events ++ out.events) rest)) (sym acted.reply)
        ∙ ap (λ ev. stop_at (error_of a.prepared.reply) (λ code. replies s (failure (length answers) code (length rest))) (multi s out.state session ids i t (answers ++ op_reply a.prepared.reply ∷ []) (events ++ ev) rest)) (sym acted.events)

    named_next : paths_of_ops s session ids i t ops ≡ h.done ++ path ∷ paths_of_ops out.state session ids i t rest
    unfolding paths_of_ops
    named_next = h.named

    among : IsEffectAmong (with_parents (paths_of_ops s session ids i t ops)) a.effect
    among =
        subst (λ ps. IsEffectAmong (with_parents ps) a.effect) (sym named_next)
        (effect_in (with_parents (h.done ++ path ∷ paths_of_ops out.state session ids i t rest)) path a.effect (family_in h.done (paths_of_ops out.state session ids i t rest) path) acted.on)

    -- it is done
    pub run_next : error_of a.prepared.reply ≡ None → IsRun s session ids i t ops rest (es ++ a.effect ∷ []) (answers ++ op_reply a.prepared.reply ∷ []) (events ++ a.prepared.events)
    run_next none = record {
      state = out.state;
      done = h.done ++ path ∷ [];
      leads = h.leads ∙ goes_on ∙ ap (λ e. stop_at e (λ code. replies s (failure (length answers) code (length rest))) (multi s out.state session ids i t (answers ++ op_reply a.prepared.reply ∷ []) (events ++ a.prepared.events) rest)) none;
      named = named_next ∙ append-assoc h.done (path ∷ []) (paths_of_ops out.state session ids i t rest);
      count = let l = length-push answers (op_reply a.prepared.reply) in let c = h.count in omega (arith, l, c);
      nodes = effected-push s.nodes es a.effect ∙ ap (λ n. effected_nodes n a.effect) h.nodes ∙ acted.nodes;
      parts = parts-push (parts_of s) es a.effect ∙ ap (λ p. effected p a.effect) h.parts ∙ acted.parts;
      owners = owners-push (parts_of s) es a.effect h.owners (subst (λ p. TellsOwner p a.effect) (sym h.parts) acted.owner);
      fit = all-push IsFit es a.effect h.fit (fit_on path a.effect acted.on);
      fits = all-push FitsData es a.effect h.fits acted.fits;
      paths = all-push (IsEffectAmong (with_parents (paths_of_ops s session ids i t ops))) es a.effect h.paths among;
      places = λ places. act_on_places h.state session ids i t o (h.places places);
    }

    -- it ends in an error
    pub run_fails : (code : ℤ) → error_of a.prepared.reply ≡ Some code → multi s s session ids i t [] [] ops ≡ replies s (failure (length answers) code ((length ops - length answers) - 1))
    run_fails code some =
        let left : length rest ≡ (length ops - length answers) - 1 = (let c = h.count in omega (arith, c)) in
        h.leads ∙ goes_on ∙ ap (λ e. stop_at e (λ code. replies s (failure (length answers) code (length rest))) (multi s out.state session ids i t (answers ++ op_reply a.prepared.reply ∷ []) (events ++ a.prepared.events) rest)) some
        ∙ ap (λ n. replies s (failure (length answers) code n)) left

-- no operation is done on these nodes
pub runs_none : (nodes : Nodes) (session : ℕ) (ids : List (List ℕ)) (i t : ℕ) (ops : List Op) (es : List Effect) (answers : List OpReply) (events : List Event) → es ≡ [] → answers ≡ [] → events ≡ [] → (s : State) → IsRun (record s { nodes = nodes }) session ids i t ops ops es answers events
runs_none nodes session ids i t ops es answers events none unanswered silent s =
    subst (λ x. IsRun (record s { nodes = nodes }) session ids i t ops ops x answers events) (sym none) (
    subst (λ x. IsRun (record s { nodes = nodes }) session ids i t ops ops [] x events) (sym unanswered) (
    subst (λ x. IsRun (record s { nodes = nodes }) session ids i t ops ops [] [] x) (sym silent) (run_none (record s { nodes = nodes }) session ids i t ops)))

-- the operations behind those that are done
pub drop-at : {X : Type 0} (xs : List X) (k : ℕ) (d : X) → k < length xs → drop k xs ≡ get_or xs k d ∷ drop (suc k) xs
drop-at [] k d b = absurd (omega (arith, b))
drop-at (x ∷ xs) zero d b = refl
drop-at (x ∷ xs) (suc k) d b = drop-at xs k d (omega (arith, b))

drop-all : {X : Type 0} (xs : List X) (k : ℕ) → length xs ≤ k → drop k xs ≡ []
drop-all [] zero h = refl
drop-all [] (suc k) h = refl
drop-all (x ∷ xs) zero h = absurd (omega (arith, h))
drop-all (x ∷ xs) (suc k) h = drop-all xs k (omega (arith, h))

one_up : (k : ℕ) → suc k ≡ k + 1
one_up k = omega arith

pub rest_at : (ops : List Op) (k : ℕ) (item o : Op) → k < length ops → item ≡ get_or ops k item → o ≡ item → drop k ops ≡ o ∷ drop (k + 1) ops
rest_at ops k item o b at is = drop-at ops k item b ∙ ap (λ x. x ∷ drop (suc k) ops) (sym at ∙ sym is) ∙ ap (λ n. o ∷ drop n ops) (one_up k)

-- the nodes behind the operations have their places
pub run_places : (s : State) (session : ℕ) (ids : List (List ℕ)) (i t : ℕ) (ops rest : List Op) (es : List Effect) (answers : List OpReply) (events : List Event) → IsRun s session ids i t ops rest es answers events → HavePlaces s.nodes → HavePlaces (effected_nodes_by s.nodes es)
run_places s session ids i t ops rest es answers events h places = subst HavePlaces (sym h.nodes) (h.places places)

module _ (nodes : Nodes) (session : ℕ) (ids : List (List ℕ)) (i t : ℕ) (ops : List Op) (k : ℕ) (item o : Op) (es new_es : List Effect) (answers new_answers : List OpReply) (events new_events : List Event)
    (b : k < length ops) (at : item ≡ get_or ops k item) (is : o ≡ item)
    (runs : (s : State) → IsRun (record s { nodes = nodes }) session ids i t ops (drop k ops) es answers events) where
  abbrev now : Nodes
  now = effected_nodes_by nodes es

  run_here : (s : State) → IsRun (record s { nodes = nodes }) session ids i t ops (o ∷ drop (k + 1) ops) es answers events
  run_here s = subst (λ rest. IsRun (record s { nodes = nodes }) session ids i t ops rest es answers events) (rest_at ops k item o b at is) (runs s)

  -- the operation at this place is done
  pub runs_next : IsStep (path_of_op now o) now (λ s. act_on s session ids i t o) es new_es answers new_answers events new_events None → (s : State) → IsRun (record s { nodes = nodes }) session ids i t ops (drop (k + 1) ops) new_es new_answers new_events
  runs_next h s =
      subst (λ x. IsRun (record s { nodes = nodes }) session ids i t ops (drop (k + 1) ops) x new_answers new_events) (sym h.adds.0) (
      subst (λ x. IsRun (record s { nodes = nodes }) session ids i t ops (drop (k + 1) ops) (es ++ h.act.effect ∷ []) x new_events) (sym h.adds.1) (
      subst (λ x. IsRun (record s { nodes = nodes }) session ids i t ops (drop (k + 1) ops) (es ++ h.act.effect ∷ []) (answers ++ op_reply h.act.prepared.reply ∷ []) x) (sym h.adds.2)
      (run_next (record s { nodes = nodes }) session ids i t ops (drop (k + 1) ops) o es answers events (run_here s) h.act h.acts h.error)))

  -- or it is the first that ends in an error
  pub runs_end : (code : ℤ) → IsStep (path_of_op now o) now (λ s. act_on s session ids i t o) es new_es answers new_answers events new_events (Some code) → IsEnd nodes session ids i t ops new_es new_answers new_events (Some code)
  runs_end code h s =
      run_fails (record s { nodes = nodes }) session ids i t ops (drop (k + 1) ops) o es answers events (run_here s) h.act h.acts code h.error
      ∙ ap (λ (x : List OpReply). replies (record s { nodes = nodes }) (failure (length x) code ((length ops - length x) - 1))) (sym h.adds)

  -- whichever it is
  pub runs_on : (end : Option ℤ) → is_some end ≡ false → IsStep (path_of_op now o) now (λ s. act_on s session ids i t o) es new_es answers new_answers events new_events end → (s : State) → IsRun (record s { nodes = nodes }) session ids i t ops (drop (k + 1) ops) new_es new_answers new_events
  runs_on None e h = runs_next h
  runs_on (Some code) e h = no true e refl

  pub runs_stop : (end : Option ℤ) → is_some end ≡ true → IsStep (path_of_op now o) now (λ s. act_on s session ids i t o) es new_es answers new_answers events new_events end → IsEnd nodes session ids i t ops new_es new_answers new_events end
  runs_stop None e h = no false refl e
  runs_stop (Some code) e h = runs_end code h

-- behind all operations nothing is left
pub runs_all : (nodes : Nodes) (session : ℕ) (ids : List (List ℕ)) (i t : ℕ) (ops : List Op) (k : ℕ) (es : List Effect) (answers : List OpReply) (events : List Event) → length ops ≤ k → ((s : State) → IsRun (record s { nodes = nodes }) session ids i t ops (drop k ops) es answers events) → (s : State) → IsRun (record s { nodes = nodes }) session ids i t ops [] es answers events
runs_all nodes session ids i t ops k es answers events le runs s = subst (λ rest. IsRun (record s { nodes = nodes }) session ids i t ops rest es answers events) (drop-all ops k le) (runs s)

-- ---- the plan

moved : (s : State) (i id : ℕ) (x : Session) (es : List Effect) → effected_by (record (parts_of s) { sessions = fin.insert (parts_of s).sessions id x; next = (parts_of s).next }) es ≡ effected_by (parts_of (record s { applied = i; sessions = fin.insert s.sessions id x })) es
unfolding parts_of
moved s i id x es = refl

module _ (s : State) (i t id epoch seq : ℕ) (x : Session) (ops : List Op) (es : List Effect) (answers : List OpReply) (events : List Event) (live : Some x ≡ fin.get s.sessions id) where
  abbrev raised : State
  raised = record s { applied = i; sessions = fin.insert s.sessions id (with_seq seq x) }

  abbrev keys : Touched
  keys = touched_at s i t (body.Write id epoch seq (cmd.Multi ops))

  ids_are : x.ids ≡ ids_of s id
  ids_are = ap (λ o. option_map_or (λ (y : Session). y.ids) o []) live

  pub multi_planned : (end : Option ℤ) (p : Plan) → IsEnd s.nodes id x.ids i t ops es answers events end → p ≡ multi_plan id (with_seq seq x) (length ops) end es answers events → IsPlan keys s (act raised id x.ids i t (cmd.Multi ops)) p
  unfolding act multi
  multi_planned None p h is =
      let run : IsRun raised id x.ids i t ops [] es answers events = h raised in
      let own : IsRun s id x.ids i t ops [] es answers events = h s in
      subst (IsPlan keys s (multi raised raised id x.ids i t [] [] ops)) (sym is) (
      subst (λ o. IsPlan keys s o (multi_plan id (with_seq seq x) (length ops) None es answers events)) (sym run.leads) (record {
        reply = refl;
        events = refl;
        parts = moved s i id (with_seq seq x) es ∙ run.parts;
        nodes = run.nodes;
        owners = own.owners;
        fit = own.fit;
        fits = own.fits;
        paths = subst (λ ids. All (IsEffectAmong (with_parents (paths_of_ops s id ids i t ops))) es) ids_are own.paths;
        sessions = the_one id;
      }))
  multi_planned (Some code) p h is =
      subst (IsPlan keys s (multi raised raised id x.ids i t [] [] ops)) (sym is) (
      subst (λ o. IsPlan keys s o (session_plan id (with_seq seq x) (failure (length answers) code ((length ops - length answers) - 1)))) (sym (h raised))
      (renewed_is keys s i id (with_seq seq x) (failure (length answers) code ((length ops - length answers) - 1)) (the_one id)))
