-- The latest parts after the writes of a plan.
use Rattle.std.proofs.Common.{◌≡◌, ℕ, ◌+◌, Bool, true, false, cond, List, [], ◌∷◌, length, Option, Some, None, refl, ap, sym, subst, ◌∙◌, arith}
use Rattle.std.specs.Prelude.{◌==◌, if◌then◌else◌, unwrap_or, Result, Ok, Err, OnOk, OnErr}
use Rattle.std.specs.Option.{option_map_or}
use Rattle.std.specs.Ordering.{is_eq, nat_cmp}
use Rattle.std.specs.Cmp.{nat_cmp_total}
use Rattle.std.proofs.lemmas.Cmp.{tied_itself}
use Rattle.std.proofs.lemmas.Bool.Decides.{Decides-eqb}
use Rattle.std.specs.FinMap as map
use Rattle.kp_layers.specs.Layering.{Layering, latest_of, written}
use Rattle.kp_layers.proofs.Latest.{latest_written}
use Rattle.kp_model.specs.declared.node.Acl.{Acl}
use Rattle.kp_model.specs.declared.node.Meta.{Meta}
use Rattle.kp_model.specs.declared.session.Session.{Session}
use Rattle.kp_model.specs.Path.{parent}
use Rattle.kp_model.specs.State.{State, path_cmp}
use Rattle.kp_model.specs.Step.{Outcome}
use Rattle.kp_model.specs.Touched.{Touched}
use Rattle.kp_cells.specs.Overlays.{Overlays, IsOpen, latest_parts, latest_state, all_begun, all_undone, marks_of, next_in, with_meta, with_content, with_acl, with_child, with_owned}
use Rattle.kp_cells.specs.Parts.{Parts, parts_of, whole, FitTogether}
use Rattle.kp_act.specs.declared.plan.Effect.{Effect}
use Rattle.kp_act.specs.declared.plan.Effect.TheVariants as effect
use Rattle.kp_act.specs.declared.plan.Plan.{Plan}
use Rattle.kp_act.specs.Effects.{effected, owned_by, disowned, OwnerIs, TellsOwner}
use Rattle.kp_act.specs.Plans.{planned, settled, next_after, IsPlan}
use Rattle.kp_prep.specs.Staged.{staged_plan, staged_effects, given_up, taken_on, staged_effect, staged_session, staged_next}
use Rattle.kp_act.specs.Several.{effected_by, TellOwners}

-- two writes of the same part
both : {V : Type 0} (l : Layering path_cmp V) (a b : List ℕ) (u : V) (w : Option V) → latest_of (written (written l a (Some u)) b w) ≡ elim w [ Some v ↦ map.insert (map.insert (latest_of l) a u) b v | None ↦ map.remove (map.insert (latest_of l) a u) b ]
both l a b u (Some v) = latest_written (written l a (Some u)) b (Some v) ∙ ap (λ m. map.insert m b v) (latest_written l a (Some u))
both l a b u None = latest_written (written l a (Some u)) b None ∙ ap (λ m. map.remove m b) (latest_written l a (Some u))

-- the owner that is given up is the one that is there
given : (o : Overlays) (owner : ℕ) (path : List ℕ) (b : Bool) → (owner == 0) ≡ b → OwnerIs (latest_of o.owners) owner path → latest_of (given_up o owner path).owners ≡ disowned (latest_of o.owners) owner path
unfolding with_owned
given o owner path true e is = ap (λ c. latest_of (if c then o else with_owned o path owner false).owners) e ∙ sym (ap (λ c. if c then latest_of o.owners else map.remove (latest_of o.owners) path) e)
given o owner path false e is =
    ap (λ c. latest_of (if c then o else with_owned o path owner false).owners) e
    ∙ ap (λ c. latest_of (if c then record o { owners = written o.owners path None } else o).owners) (ap (λ r. option_map_or (λ n. n == owner) r false) (is e) ∙ (Decides-eqb owner owner).1 refl)
    ∙ latest_written o.owners path None
    ∙ sym (ap (λ c. if c then latest_of o.owners else map.remove (latest_of o.owners) path) e)

-- giving up changes the owners alone
kept : (o : Overlays) (owner : ℕ) (path : List ℕ) → latest_parts (given_up o owner path) ≡ record (latest_parts o) { owners = latest_of (given_up o owner path).owners }
unfolding with_owned
kept o owner path = cases (owner == 0) (option_map_or (λ n. n == owner) (map.get (latest_of o.owners) path) false) where
  cases : (b t : Bool) → latest_parts (if b then o else (if t then record o { owners = written o.owners path None } else o)) ≡ record (latest_parts o) { owners = latest_of (if b then o else (if t then record o { owners = written o.owners path None } else o)).owners }
  cases true t = refl
  cases false true = refl
  cases false false = refl

-- the owner that a node is made with
taken : (o : Overlays) (owner : ℕ) (path : List ℕ) (b : Bool) → (owner == 0) ≡ b → latest_of (taken_on o owner path).owners ≡ owned_by (latest_of o.owners) owner path
unfolding with_owned
taken o owner path true e = ap (λ c. latest_of (if c then o else with_owned o path owner true).owners) e ∙ sym (ap (λ c. if c then latest_of o.owners else map.insert (latest_of o.owners) path owner) e)
taken o owner path false e =
    ap (λ c. latest_of (if c then o else with_owned o path owner true).owners) e
    ∙ latest_written o.owners path (Some owner)
    ∙ sym (ap (λ c. if c then latest_of o.owners else map.insert (latest_of o.owners) path owner) e)

-- owning changes the owners alone
kept_but_owned : (o : Overlays) (owner : ℕ) (path : List ℕ) → latest_parts (taken_on o owner path) ≡ record (latest_parts o) { owners = latest_of (taken_on o owner path).owners }
unfolding with_owned
kept_but_owned o owner path = cases (owner == 0) where
  cases : (b : Bool) → latest_parts (if b then o else record o { owners = written o.owners path (Some owner) }) ≡ record (latest_parts o) { owners = latest_of (if b then o else record o { owners = written o.owners path (Some owner) }).owners }
  cases true = refl
  cases false = refl

-- the writes of a node that is made, but for its owner
abbrev standing : Overlays → List ℕ → List ℕ → List Acl → Meta → Meta → Overlays
standing o path bytes acl meta up = with_child (with_acl (with_content (with_meta (with_meta o (parent path) (Some up)) path (Some meta)) path (Some bytes)) path (Some acl)) path true

pub effect_carried : (o : Overlays) (e : Effect) → TellsOwner (latest_parts o) e → latest_parts (staged_effect o e) ≡ effected (latest_parts o) e
effect_carried o effect.Nothing h = refl
effect_carried o (effect.Make path bytes acl meta up) h =
    kept_but_owned (standing o path bytes acl meta up) meta.owner path
    ∙ (λ j. record (latest_parts o) {
      metas = both o.metas (parent path) path up (Some meta) j;
      contents = latest_written o.contents path (Some bytes) j;
      acls = latest_written o.acls path (Some acl) j;
      children = latest_written o.children path (Some (tt {0})) j;
      owners = taken (standing o path bytes acl meta up) meta.owner path (meta.owner == 0) refl j;
    })
effect_carried o (effect.SetAcl path acl meta) h = λ j. record (latest_parts o) {
  metas = latest_written o.metas path (Some meta) j;
  acls = latest_written o.acls path (Some acl) j;
}
effect_carried o (effect.Set path bytes meta) h = λ j. record (latest_parts o) {
  metas = latest_written o.metas path (Some meta) j;
  contents = latest_written o.contents path (Some bytes) j;
}
effect_carried o (effect.Remove path up owner) h =
    kept (staged_effect o (effect.Remove path up 0)) owner path
    ∙ (λ j. record (latest_parts o) {
      metas = both o.metas (parent path) path up None j;
      contents = latest_written o.contents path None j;
      acls = latest_written o.acls path None j;
      children = latest_written o.children path None j;
      owners = given (staged_effect o (effect.Remove path up 0)) owner path (owner == 0) refl h j;
    })

-- how many are left behind the first
pub more_left : {X : Type 0} {x : X} {xs rest : List X} {n m : ℕ} → n ≡ length xs → xs ≡ x ∷ rest → m + 1 ≡ n → m ≡ length rest
more_left {x = x} {xs = xs} {rest = rest} {n = n} {m = m} h e g = let same : length xs ≡ length (x ∷ rest) = ap length e in omega (arith, h, same, g)

-- one effect more is staged
pub staged_more : (o new : Overlays) (e : Effect) (es rest : List Effect) → es ≡ e ∷ rest → new ≡ staged_effect o e → staged_effects new rest ≡ staged_effects o es
unfolding staged_effects
staged_more o new e es rest is staged = ap (λ z. staged_effects z rest) staged ∙ sym (ap (staged_effects o) is)

pub staged_none : (o : Overlays) (es : List Effect) → length es ≡ 0 → staged_effects o es ≡ o
unfolding staged_effects
staged_none o [] h = refl
staged_none o (e ∷ es) h = absurd (omega (arith, h))

-- the latest parts after the writes of effects
pub effects_carried : (o : Overlays) (es : List Effect) → TellOwners (latest_parts o) es → latest_parts (staged_effects o es) ≡ effected_by (latest_parts o) es
unfolding staged_effects effected_by TellOwners
effects_carried o [] h = refl
effects_carried o (e ∷ es) h =
    let now : latest_parts (staged_effect o e) ≡ effected (latest_parts o) e = effect_carried o e h.0 in
    effects_carried (staged_effect o e) es (subst (λ p. TellOwners p es) (sym now) h.1)
    ∙ ap (λ p. effected_by p es) now

session_carried : (o : Overlays) (x : Option (ℕ × Option Session)) → latest_parts (staged_session o x) ≡ record (latest_parts o) { sessions = settled (latest_parts o).sessions x }
session_carried o None = refl
session_carried o (Some x) = λ j. record (latest_parts o) { sessions = latest_written o.sessions x.0 x.1 j }

next_got : (m : map.FinMap nat_cmp ℕ) (n : ℕ) → next_in (map.insert m 0 n) ≡ n
next_got m n = ap (λ r. unwrap_or r 1) (map.get-insert nat_cmp_total m 0 n 0 ∙ ap (λ b. cond b (Some n) (map.get m 0)) (ap is_eq (tied_itself nat_cmp_total 0)))

next_carried : (o : Overlays) (n : Option ℕ) → latest_parts (staged_next o n) ≡ record (latest_parts o) { next = next_after (latest_parts o).next n }
next_carried o None = refl
next_carried o (Some n) = λ j. record (latest_parts o) { next = (ap next_in (latest_written o.next 0 (Some n)) ∙ next_got (latest_of o.next) n) j }

owners_stay : (o : Overlays) (x : Option (ℕ × Option Session)) (n : Option ℕ) → (staged_next (staged_session o x) n).owners ≡ o.owners
owners_stay o None None = refl
owners_stay o (Some x) None = refl
owners_stay o None (Some n) = refl
owners_stay o (Some x) (Some n) = refl

tells : (p q : Parts) (e : Effect) → p.owners ≡ q.owners → TellsOwner p e → TellsOwner q e
tells p q effect.Nothing e h = tt
tells p q (effect.Make path bytes acl meta up) e h = tt
tells p q (effect.Remove path up owner) e h = subst (λ m. OwnerIs m owner path) e h
tells p q (effect.Set path bytes meta) e h = tt
tells p q (effect.SetAcl path acl meta) e h = tt

owners_after : (p q : Parts) (e : Effect) → p.owners ≡ q.owners → (effected p e).owners ≡ (effected q e).owners
owners_after p q effect.Nothing e = e
owners_after p q (effect.Make path bytes acl meta up) e = ap (λ m. owned_by m meta.owner path) e
owners_after p q (effect.Remove path up owner) e = ap (λ m. disowned m owner path) e
owners_after p q (effect.Set path bytes meta) e = e
owners_after p q (effect.SetAcl path acl meta) e = e

tell : (p q : Parts) (es : List Effect) → p.owners ≡ q.owners → TellOwners p es → TellOwners q es
unfolding TellOwners
tell p q [] e h = tt
tell p q (x ∷ es) e h = (tells p q x e h.0, tell (effected p x) (effected q x) es (owners_after p q x e) h.1)

-- the latest parts after all writes of a plan
pub plan_carried : (o : Overlays) (p : Plan) → TellOwners (latest_parts o) p.effects → latest_parts (staged_plan o p) ≡ planned (latest_parts o) p
plan_carried o p h =
    let s : Overlays = staged_session o p.session in
    let t : Overlays = staged_next s p.next in
    effects_carried t p.effects (tell (latest_parts o) (latest_parts t) p.effects (sym (ap latest_of (owners_stay o p.session p.next))) h)
    ∙ ap (λ z. effected_by z p.effects) (next_carried s p.next ∙ ap (λ (z : Parts). record z { next = next_after z.next p.next }) (session_carried o p.session))

-- the parts of a state with an entry's plan carried out are those of the state after the entry
pub stands : (k : Touched) (o : Overlays) (s : State) (out : Outcome) (p : Plan) → latest_parts o ≡ parts_of s → IsPlan k s out p → latest_parts (staged_plan o p) ≡ parts_of out.state
stands k o s out p same h =
    plan_carried o p (subst (λ z. TellOwners z p.effects) (sym same) h.owners)
    ∙ ap (λ z. planned z p) same
    ∙ h.parts

-- parts that fit together are those of the latest state
pub fitting : (o : Overlays) → FitTogether (latest_parts o) → latest_parts o ≡ parts_of (latest_state o)
unfolding parts_of whole
fitting o h = h

-- without its writes the open layer is as before
pub begun_owned : (o : Overlays) (owner : ℕ) (path : List ℕ) → all_begun (with_owned o path owner false) ≡ all_begun o
unfolding with_owned
begun_owned o owner path = cases (option_map_or (λ n. n == owner) (map.get (latest_of o.owners) path) false) where
  cases : (t : Bool) → all_begun (if t then record o { owners = written o.owners path None } else o) ≡ all_begun o
  cases true = refl
  cases false = refl

pub open_owned : (o : Overlays) (owner : ℕ) (path : List ℕ) → IsOpen o → IsOpen (with_owned o path owner false)
unfolding with_owned
open_owned o owner path h = cases (option_map_or (λ n. n == owner) (map.get (latest_of o.owners) path) false) where
  cases : (t : Bool) → IsOpen (if t then record o { owners = written o.owners path None } else o)
  cases true = h
  cases false = h

pub begun_taken : (o : Overlays) (owner : ℕ) (path : List ℕ) → all_begun (with_owned o path owner true) ≡ all_begun o
unfolding with_owned
begun_taken o owner path = refl

pub open_taken : (o : Overlays) (owner : ℕ) (path : List ℕ) → IsOpen o → IsOpen (with_owned o path owner true)
unfolding with_owned
open_taken o owner path h = h

-- what holds of both outcomes
pub either : {X E : Type 0} (P : Overlays → Type 0) (r : Result X E) (new old next : Overlays) → OnOk r (new ≡ next) → OnErr r (new ≡ old) → P next → P old → P new
either P (Ok x) new old next ok err p q = subst P (sym ok) p
either P (Err e) new old next ok err p q = subst P (sym err) q

-- going back to the mark of an open layer without writes gives the layers of before
pub undone_all : (o p : Overlays) → p ≡ all_begun p → all_begun o ≡ p → all_undone o (marks_of p) ≡ p
undone_all o p fresh same = ap (λ z. all_undone o (marks_of z)) fresh ∙ same
