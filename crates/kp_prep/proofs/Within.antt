-- The writes of a plan are at keys that its entry touches.
use Rattle.std.proofs.Common.{◌≡◌, ℕ, Bool, true, false, ◌&&◌, ◌||◌, List, [], ◌∷◌, ◌++◌, Option, Some, None, refl, ap, sym, subst, ◌∙◌}
use Rattle.std.specs.Prelude.{◌==◌, if◌then◌else◌, IsTrue}
use Rattle.std.specs.List.{All, list_all}
use Rattle.std.specs.declared.cmp.Ordering.{Ordering}
use Rattle.std.proofs.lemmas.List.{map-append}
use Rattle.std.proofs.lemmas.List.Folds.{list_all-append}
use Rattle.std.proofs.lemmas.List.Elements.{All-head, All-tail}
use Rattle.std.specs.Option.{option_map_or}
use Rattle.std.specs.Str.{bytes_eq}
use Rattle.std.specs.FinMap as fin
use Rattle.std.proofs.lemmas.Slice.Eq.{bytes_eq-Decides}
use Rattle.kp_layers.specs.Layering.{Layering, latest_of, staged_of, written}
use Rattle.kp_model.specs.declared.command.Cmd.{Cmd}
use Rattle.kp_model.specs.declared.command.Cmd.TheVariants as cmd
use Rattle.kp_model.specs.declared.node.Acl.{Acl}
use Rattle.kp_model.specs.declared.node.Meta.{Meta}
use Rattle.kp_model.specs.declared.session.Session.{Session}
use Rattle.kp_model.specs.Path.{parent, is_well_formed}
use Rattle.kp_model.specs.LogEntry.{LogEntry}
use Rattle.kp_model.specs.State.{State, Nodes}
use Rattle.kp_model.specs.Step.{made_path}
use Rattle.kp_model.specs.Touched.{Touched, touched, with_parents, paths_of}
use Rattle.kp_cells.specs.Overlays.{Overlays, all_begun, with_meta, with_content, with_acl, with_child, with_owned}
use Rattle.kp_cells.proofs.Maps.{no}
use Rattle.kp_act.specs.declared.plan.Effect.{Effect}
use Rattle.kp_act.specs.declared.plan.Effect.TheVariants as effect
use Rattle.kp_act.specs.declared.plan.Plan.{Plan}
use Rattle.kp_act.specs.Effects.{IsOn, path_of}
use Rattle.kp_prep.specs.Staged.{staged_plan, staged_effects, given_up, taken_on, staged_effect, staged_session, staged_next}
use Rattle.kp_prep.specs.Touching.{AreWithin, keys, staged_keys}
use Rattle.kp_act.specs.Among.{is_among, is_one_of, IsFamilyAmong, IsEffectAmong, IsSessionAmong}

or_true : (b : Bool) → (b || true) ≡ true
or_true true = refl
or_true false = refl

same : (p : List ℕ) → bytes_eq p p ≡ true
same p = (bytes_eq-Decides p p).1 refl

-- a path and its parent are among the path with its parent
family : (path : List ℕ) → IsFamilyAmong (with_parents (path ∷ [])) path
family path = (
  ap (λ b. b || (bytes_eq path (parent path) || false)) (same path),
  ap (λ b. bytes_eq (parent path) path || (b || false)) (same (parent path)) ∙ or_true (bytes_eq (parent path) path),
)

-- the effect on a path writes there and at its parent
at_path : (path : List ℕ) (e : Effect) → IsOn path e → IsEffectAmong (with_parents (path ∷ [])) e
at_path path effect.Nothing h = tt
at_path path (effect.Make q bytes acl meta up) h = subst (IsFamilyAmong (with_parents (path ∷ []))) (sym h.0) (family path)
at_path path (effect.Remove q up owner) h = subst (IsFamilyAmong (with_parents (path ∷ []))) (sym h.0) (family path)
at_path path (effect.Set q bytes meta) h = subst (λ p. IsTrue (is_among (with_parents (path ∷ [])) p)) (sym h.0) (family path).0
at_path path (effect.SetAcl q acl meta) h = subst (λ p. IsTrue (is_among (with_parents (path ∷ [])) p)) (sym h.0) (family path).0

unformed : {A : Type 0} (q : List ℕ) → q ≡ [] → IsTrue (is_well_formed q) → A
unfolding is_well_formed
unformed q e h = no (is_well_formed q) (ap is_well_formed e) h

-- there is no effect on the path that is none
at_none : (ps : List (List ℕ)) (e : Effect) → IsOn [] e → IsEffectAmong ps e
at_none ps effect.Nothing h = tt
at_none ps (effect.Make q bytes acl meta up) h = unformed q h.0 h.1.child.0
at_none ps (effect.Remove q up owner) h = unformed q h.0 h.1.child.0
at_none ps (effect.Set q bytes meta) h = unformed q h.0 h.1
at_none ps (effect.SetAcl q acl meta) h = unformed q h.0 h.1

-- the effect on the path of a command writes where the command may
pub among_named : (nodes : Nodes) (id : ℕ) (c : Cmd) (e : Effect) → IsOn (path_of nodes c) e → IsEffectAmong (with_parents (paths_of nodes id c)) e
among_named nodes id (cmd.Create path bytes acl flags with_stat) e h = at_path (made_path nodes path flags) e h
among_named nodes id (cmd.Delete path version) e h = at_path path e h
among_named nodes id (cmd.SetData path bytes version) e h = at_path path e h
among_named nodes id (cmd.SetAcl path acl version) e h = at_path path e h
among_named nodes id (cmd.Check path version) e h = at_path path e h
among_named nodes id (cmd.Sync path) e h = at_path path e h
among_named nodes id (cmd.Auth scheme auth) e h = at_none (with_parents (paths_of nodes id (cmd.Auth scheme auth))) e h
among_named nodes id (cmd.Multi ops) e h = at_none (with_parents (paths_of nodes id (cmd.Multi ops))) e h
among_named nodes id cmd.CloseSession e h = at_none (with_parents (paths_of nodes id cmd.CloseSession)) e h

-- every key that the open layer writes at, in each part, is one that is touched
record ArePartsWithin (t : Touched) (o : Overlays) : Type 0 where
  pub metas : IsTrue (list_all (is_among t.paths) (keys (staged_of o.metas)))
  pub contents : IsTrue (list_all (is_among t.paths) (keys (staged_of o.contents)))
  pub acls : IsTrue (list_all (is_among t.paths) (keys (staged_of o.acls)))
  pub children : IsTrue (list_all (is_among t.paths) (keys (staged_of o.children)))
  pub owners : IsTrue (list_all (is_among t.paths) (keys (staged_of o.owners)))
  pub sessions : IsTrue (list_all (is_one_of t.sessions) (keys (staged_of o.sessions)))

both_true : (a b : Bool) → a ≡ true → b ≡ true → (a && b) ≡ true
both_true a b h g = λ j. h j && g j

joined : {A : Type 0} (f : A → Bool) (xs ys : List A) → IsTrue (list_all f xs) → IsTrue (list_all f ys) → IsTrue (list_all f (xs ++ ys))
joined f xs ys h g = list_all-append f xs ys ∙ both_true (list_all f xs) (list_all f ys) h g

-- one write more, at a key that is touched
wrote : {K V : Type 0} {R : K → K → Ordering} (f : K → Bool) (l : Layering R V) (k : K) (v : Option V) → IsTrue (list_all f (keys (staged_of l))) → IsTrue (f k) → IsTrue (list_all f (keys (staged_of (written l k v))))
wrote f l k v h g =
    ap (list_all f) (map-append (λ w. w.0) (staged_of l) ((k, v) ∷ []))
    ∙ joined f (keys (staged_of l)) (k ∷ []) h (ap (λ b. b && true) g)

-- the parts together
all_within : (t : Touched) (o : Overlays) → ArePartsWithin t o → AreWithin t (staged_keys o)
all_within t o h = record {
  paths =
      let f : List ℕ → Bool = is_among t.paths in
      let last = joined f (keys (staged_of o.children)) (keys (staged_of o.owners)) h.children h.owners in
      let lists = joined f (keys (staged_of o.acls)) (keys (staged_of o.children) ++ keys (staged_of o.owners)) h.acls last in
      let contents = joined f (keys (staged_of o.contents)) (keys (staged_of o.acls) ++ (keys (staged_of o.children) ++ keys (staged_of o.owners))) h.contents lists in
      joined f (keys (staged_of o.metas)) (keys (staged_of o.contents) ++ (keys (staged_of o.acls) ++ (keys (staged_of o.children) ++ keys (staged_of o.owners)))) h.metas contents;
  sessions = h.sessions;
}

gave_up : (t : Touched) (o : Overlays) (owner : ℕ) (path : List ℕ) → IsTrue (is_among t.paths path) → ArePartsWithin t o → ArePartsWithin t (given_up o owner path)
unfolding with_owned
gave_up t o owner path among h = cases (owner == 0) (option_map_or (λ n. n == owner) (fin.get (latest_of o.owners) path) false) where
  cases : (b d : Bool) → ArePartsWithin t (if b then o else (if d then record o { owners = written o.owners path None } else o))
  cases true d = h
  cases false true = record { metas = h.metas; contents = h.contents; acls = h.acls; children = h.children; owners = wrote (is_among t.paths) o.owners path None h.owners among; sessions = h.sessions }
  cases false false = h

took_on : (t : Touched) (o : Overlays) (owner : ℕ) (path : List ℕ) → IsTrue (is_among t.paths path) → ArePartsWithin t o → ArePartsWithin t (taken_on o owner path)
unfolding with_owned
took_on t o owner path among h = cases (owner == 0) where
  cases : (b : Bool) → ArePartsWithin t (if b then o else record o { owners = written o.owners path (Some owner) })
  cases true = h
  cases false = record { metas = h.metas; contents = h.contents; acls = h.acls; children = h.children; owners = wrote (is_among t.paths) o.owners path (Some owner) h.owners among; sessions = h.sessions }

-- the writes of a node that is made, but for its owner
abbrev made : Overlays → List ℕ → List ℕ → List Acl → Meta → Meta → Overlays
made o path bytes acl meta up = with_child (with_acl (with_content (with_meta (with_meta o (parent path) (Some up)) path (Some meta)) path (Some bytes)) path (Some acl)) path true

effect_within : (t : Touched) (o : Overlays) (e : Effect) → IsEffectAmong t.paths e → ArePartsWithin t o → ArePartsWithin t (staged_effect o e)
effect_within t o effect.Nothing g h = h
effect_within t o (effect.Make path bytes acl meta up) g h = took_on t (made o path bytes acl meta up) meta.owner path g.0 (record {
  metas = wrote (is_among t.paths) (written o.metas (parent path) (Some up)) path (Some meta) (wrote (is_among t.paths) o.metas (parent path) (Some up) h.metas g.1) g.0;
  contents = wrote (is_among t.paths) o.contents path (Some bytes) h.contents g.0;
  acls = wrote (is_among t.paths) o.acls path (Some acl) h.acls g.0;
  children = wrote (is_among t.paths) o.children path (Some (tt {0})) h.children g.0;
  owners = h.owners;
  sessions = h.sessions;
})
effect_within t o (effect.SetAcl path acl meta) g h = record {
  metas = wrote (is_among t.paths) o.metas path (Some meta) h.metas g;
  contents = h.contents;
  acls = wrote (is_among t.paths) o.acls path (Some acl) h.acls g;
  children = h.children;
  owners = h.owners;
  sessions = h.sessions;
}
effect_within t o (effect.Set path bytes meta) g h = record {
  metas = wrote (is_among t.paths) o.metas path (Some meta) h.metas g;
  contents = wrote (is_among t.paths) o.contents path (Some bytes) h.contents g;
  acls = h.acls;
  children = h.children;
  owners = h.owners;
  sessions = h.sessions;
}
effect_within t o (effect.Remove path up owner) g h = gave_up t (staged_effect o (effect.Remove path up 0)) owner path g.0 (record {
  metas = wrote (is_among t.paths) (written o.metas (parent path) (Some up)) path None (wrote (is_among t.paths) o.metas (parent path) (Some up) h.metas g.1) g.0;
  contents = wrote (is_among t.paths) o.contents path None h.contents g.0;
  acls = wrote (is_among t.paths) o.acls path None h.acls g.0;
  children = wrote (is_among t.paths) o.children path None h.children g.0;
  owners = h.owners;
  sessions = h.sessions;
})

effects_within : (t : Touched) (o : Overlays) (es : List Effect) → All (IsEffectAmong t.paths) es → ArePartsWithin t o → ArePartsWithin t (staged_effects o es)
unfolding staged_effects
effects_within t o [] g h = h
effects_within t o (e ∷ es) g h = effects_within t (staged_effect o e) es (All-tail (IsEffectAmong t.paths) e es g) (effect_within t o e (All-head (IsEffectAmong t.paths) e es g) h)

session_within : (t : Touched) (o : Overlays) (x : Option (ℕ × Option Session)) → IsSessionAmong t.sessions x → ArePartsWithin t o → ArePartsWithin t (staged_session o x)
session_within t o None g h = h
session_within t o (Some x) g h = record { metas = h.metas; contents = h.contents; acls = h.acls; children = h.children; owners = h.owners; sessions = wrote (is_one_of t.sessions) o.sessions x.0 x.1 h.sessions g }

next_within : (t : Touched) (o : Overlays) (n : Option ℕ) → ArePartsWithin t o → ArePartsWithin t (staged_next o n)
next_within t o None h = h
next_within t o (Some n) h = record { metas = h.metas; contents = h.contents; acls = h.acls; children = h.children; owners = h.owners; sessions = h.sessions }

-- a layer with the writes of a plan alone is written at its keys
plan_within : (t : Touched) (o : Overlays) (p : Plan) → o ≡ all_begun o → All (IsEffectAmong t.paths) p.effects → IsSessionAmong t.sessions p.session → AreWithin t (staged_keys (staged_plan o p))
plan_within t o p fresh paths sessions =
    let begun : ArePartsWithin t o = subst (ArePartsWithin t) (sym fresh) (record { metas = refl; contents = refl; acls = refl; children = refl; owners = refl; sessions = refl }) in
    all_within t (staged_plan o p)
    (effects_within t (staged_next (staged_session o p.session) p.next) p.effects paths
    (next_within t (staged_session o p.session) p.next (session_within t o p.session sessions begun)))

-- the same of the layers that a plan leaves, which is one of an entry on a state
pub within : (e : LogEntry) (s z : State) (o new : Overlays) (p : Plan) → s ≡ z → new ≡ staged_plan o p → o ≡ all_begun o → All (IsEffectAmong (touched s e).paths) p.effects → IsSessionAmong (touched s e).sessions p.session → AreWithin (touched z e) (staged_keys new)
within e s z o new p same staged fresh paths sessions =
    subst (λ x. AreWithin (touched x e) (staged_keys new)) same (
    subst (λ x. AreWithin (touched s e) (staged_keys x)) (sym staged) (plan_within (touched s e) o p fresh paths sessions))
