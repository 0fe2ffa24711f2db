-- What was found of a session's opening, its taking over or an id that is shown is what it does.
use Rattle.std.proofs.Common.{◌≡◌, ℕ, ◌+◌, Bool, true, false, not, cond, ◌||◌, List, [], ◌∷◌, Option, Some, None, refl, ap, sym, subst, ◌∙◌}
use Rattle.std.specs.Prelude.{nat_le, if◌then◌else◌, IsTrue}
use Rattle.std.specs.Cmp.{nat_cmp_total}
use Rattle.std.specs.FinMap.{nat_cmp-IsAntisymmetric}
use Rattle.std.specs.Ordering.{eq_by_cmp, is_eq, nat_cmp}
use Rattle.std.specs.Str.{bytes_eq}
use Rattle.std.proofs.lemmas.Cmp.{tied_itself}
use Rattle.std.proofs.lemmas.List.Elements.{All-nil}
use Rattle.std.specs.FinMap as map
use Rattle.kp_model.specs.declared.command.Cmd.TheVariants as cmd
use Rattle.kp_model.specs.declared.reply.Reply.{Reply}
use Rattle.kp_model.specs.declared.reply.Reply.TheVariants as reply
use Rattle.kp_model.specs.declared.session.Origin.{Origin}
use Rattle.kp_model.specs.declared.session.Session.{Session}
use Rattle.kp_model.specs.Errors.{session_expired, auth_failed}
use Rattle.kp_model.specs.State.{State, Sessions, is_held}
use Rattle.kp_model.specs.Touched.{Touched, touched_by, touched_in}
use Rattle.kp_model.specs.declared.entry.Body.TheVariants as body
use Rattle.kp_model.specs.Step.{replies, act, opened, new_session, attached_to, joined, taken_over, shown_id, with_id, renewed, shows, with_seq}
use Rattle.kp_cells.specs.Parts.{parts_of}
use Rattle.kp_act.specs.declared.plan.Plan.{Plan}
use Rattle.kp_act.specs.Effects.{IsFit, FitsData}
use Rattle.kp_act.specs.Plans.{IsPlan, answer_plan, opening_plan, session_plan}
use Rattle.kp_act.specs.Several.{effected_by, effected_nodes_by, TellOwners}
use Rattle.kp_act.specs.Among.{is_one_of, IsEffectAmong}
use Rattle.std.proofs.lemmas.Bool.Decides.{Decides-eqb}

-- a session is one of itself
pub the_one : (id : ℕ) → IsTrue (is_one_of (id ∷ []) id)
the_one id = ap (λ b. b || false) ((Decides-eqb id id).1 refl)

-- an answer alone
pub answered_is : (k : Touched) (s : State) (applied : ℕ) (r : Reply) → IsPlan k s (replies (record s { applied = applied }) r) (answer_plan r)
unfolding parts_of effected_by effected_nodes_by TellOwners
answered_is k s applied r = record { reply = refl; events = refl; parts = refl; nodes = refl; owners = tt; fit = All-nil IsFit; fits = All-nil FitsData; paths = All-nil (IsEffectAmong k.paths); sessions = tt }

-- a session that is set, and an answer
pub renewed_is : (k : Touched) (s : State) (applied id : ℕ) (x : Session) (r : Reply) → IsTrue (is_one_of k.sessions id) → IsPlan k s (replies (record s { applied = applied; sessions = map.insert s.sessions id x }) r) (session_plan id x r)
unfolding parts_of effected_by effected_nodes_by TellOwners
renewed_is k s applied id x r one = record { reply = refl; events = refl; parts = refl; nodes = refl; owners = tt; fit = All-nil IsFit; fits = All-nil FitsData; paths = All-nil (IsEffectAmong k.paths); sessions = one }

-- a session that is not opened
pub opened_late : (k : Touched) (s : State) (applied timeout : ℕ) (passwd : List ℕ) (origin : Origin) → (is_held s.sessions origin || nat_le 4611686018427387904 s.next) ≡ true → IsPlan k s (opened (record s { applied = applied }) timeout passwd origin) (answer_plan reply.Stale)
unfolding opened
opened_late k s applied timeout passwd origin late =
    let z : State = record s { applied = applied } in
    subst (λ b. IsPlan k s (if b then replies z reply.Stale else replies (record z { sessions = map.insert z.sessions z.next (new_session timeout passwd origin); next = z.next + 1 }) (reply.Session z.next)) (answer_plan reply.Stale)) (sym late) (answered_is k s applied reply.Stale)

opened_is : (timeout : ℕ) (passwd : List ℕ) (origin : Origin) (s : State) (applied : ℕ) (x : Session) → IsPlan (touched_by s (body.OpenSession timeout passwd origin)) s (replies (record s { applied = applied; sessions = map.insert s.sessions s.next x; next = s.next + 1 }) (reply.Session s.next)) (opening_plan s.next x)
unfolding parts_of effected_by effected_nodes_by TellOwners
opened_is timeout passwd origin s applied x = record { reply = refl; events = refl; parts = refl; nodes = refl; owners = tt; fit = All-nil IsFit; fits = All-nil FitsData; paths = All-nil (IsEffectAmong []); sessions = the_one s.next }

-- a session that is opened
pub opened_new : (s : State) (applied timeout : ℕ) (passwd : List ℕ) (origin : Origin) → (is_held s.sessions origin || nat_le 4611686018427387904 s.next) ≡ false → IsPlan (touched_by s (body.OpenSession timeout passwd origin)) s (opened (record s { applied = applied }) timeout passwd origin) (opening_plan s.next (new_session timeout passwd origin))
unfolding opened
opened_new s applied timeout passwd origin late =
    let z : State = record s { applied = applied } in
    subst (λ b. IsPlan (touched_by s (body.OpenSession timeout passwd origin)) s (if b then replies z reply.Stale else replies (record z { sessions = map.insert z.sessions z.next (new_session timeout passwd origin); next = z.next + 1 }) (reply.Session z.next)) (opening_plan s.next (new_session timeout passwd origin))) (sym late) (opened_is timeout passwd origin s applied (new_session timeout passwd origin))

-- a session that is dead, or whose password wasn't told
pub attached_dead : (k : Touched) (s : State) (applied id : ℕ) (passwd : List ℕ) (origin : Origin) → None ≡ map.get s.sessions id → IsPlan k s (attached_to (map.get s.sessions id) (record s { applied = applied }) id passwd origin) (answer_plan (reply.Err session_expired))
attached_dead k s applied id passwd origin none = subst (λ o. IsPlan k s (attached_to o (record s { applied = applied }) id passwd origin) (answer_plan (reply.Err session_expired))) none (answered_is k s applied (reply.Err session_expired))

pub attached_unknown : (k : Touched) (s : State) (applied id : ℕ) (passwd : List ℕ) (origin : Origin) (x : Session) → bytes_eq x.passwd passwd ≡ false → IsPlan k s (attached_to (Some x) (record s { applied = applied }) id passwd origin) (answer_plan (reply.Err session_expired))
attached_unknown k s applied id passwd origin x known =
    subst (λ b. IsPlan k s (if not b then replies (record s { applied = applied }) (reply.Err session_expired) else joined x (record s { applied = applied }) id origin) (answer_plan (reply.Err session_expired))) (sym known) (answered_is k s applied (reply.Err session_expired))

-- the password was told
pub attached_known : (k : Touched) (s : State) (applied id : ℕ) (passwd : List ℕ) (origin : Origin) (x : Session) (p : Plan) → bytes_eq x.passwd passwd ≡ true → IsPlan k s (joined x (record s { applied = applied }) id origin) p → IsPlan k s (attached_to (Some x) (record s { applied = applied }) id passwd origin) p
attached_known k s applied id passwd origin x p known h =
    subst (λ b. IsPlan k s (if not b then replies (record s { applied = applied }) (reply.Err session_expired) else joined x (record s { applied = applied }) id origin) p) (sym known) h

-- a session that isn't taken over
pub joined_stale : (k : Touched) (s : State) (applied id : ℕ) (origin : Origin) (x : Session) → (is_held s.sessions origin || nat_le 4611686018427387904 x.epoch) ≡ true → IsPlan k s (joined x (record s { applied = applied }) id origin) (answer_plan reply.Stale)
joined_stale k s applied id origin x stale =
    subst (λ b. IsPlan k s (if b then replies (record s { applied = applied }) reply.Stale else replies (record s { applied = applied; sessions = map.insert s.sessions id (taken_over origin x) }) (reply.Epoch (x.epoch + 1))) (answer_plan reply.Stale)) (sym stale) (answered_is k s applied reply.Stale)

-- a session that is taken over
pub joined_new : (k : Touched) (s : State) (applied id : ℕ) (origin : Origin) (x : Session) → IsTrue (is_one_of k.sessions id) → (is_held s.sessions origin || nat_le 4611686018427387904 x.epoch) ≡ false → IsPlan k s (joined x (record s { applied = applied }) id origin) (session_plan id (taken_over origin x) (reply.Epoch (x.epoch + 1)))
joined_new k s applied id origin x one stale =
    subst (λ b. IsPlan k s (if b then replies (record s { applied = applied }) reply.Stale else replies (record s { applied = applied; sessions = map.insert s.sessions id (taken_over origin x) }) (reply.Epoch (x.epoch + 1))) (session_plan id (taken_over origin x) (reply.Epoch (x.epoch + 1)))) (sym stale) (renewed_is k s applied id (taken_over origin x) (reply.Epoch (x.epoch + 1)) one)

session_there : (sessions : Sessions) (id : ℕ) (x : Session) → map.get (map.insert sessions id x) id ≡ Some x
session_there sessions id x = map.get-insert nat_cmp_total sessions id x id ∙ ap (λ b. cond b (Some x) (map.get sessions id)) (ap is_eq (tied_itself nat_cmp_total id))

-- what is set at a number that was set takes its place
set_again : (sessions : Sessions) (id : ℕ) (x y : Session) → map.insert (map.insert sessions id x) id y ≡ map.insert sessions id y
set_again sessions id x y = map.same_map nat_cmp_total nat_cmp-IsAntisymmetric _ _ (λ n.
    map.get-insert nat_cmp_total (map.insert sessions id x) id y n
    ∙ ap (cond (eq_by_cmp nat_cmp n id) (Some y)) (map.get-insert nat_cmp_total sessions id x n)
    ∙ once (eq_by_cmp nat_cmp n id) (map.get sessions n)
    ∙ sym (map.get-insert nat_cmp_total sessions id y n)) where
      once : (b : Bool) (o : Option Session) → cond b (Some y) (cond b (Some x) o) ≡ cond b (Some y) o
      once true o = refl
      once false o = refl

-- nothing was shown
pub shown_none : (s : State) (i t id seq : ℕ) (x : Session) (scheme auth : List ℕ) → None ≡ shown_id scheme auth → IsPlan (touched_in s id (cmd.Auth scheme auth)) s (act (record s { applied = i; sessions = map.insert s.sessions id (with_seq seq x) }) id x.ids i t (cmd.Auth scheme auth)) (session_plan id (with_seq seq x) (reply.Err auth_failed))
unfolding act
shown_none s i t id seq x scheme auth none =
    let z : State = record s { applied = i; sessions = map.insert s.sessions id (with_seq seq x) } in
    subst (λ o. IsPlan (touched_in s id (cmd.Auth scheme auth)) s (shows z id o) (session_plan id (with_seq seq x) (reply.Err auth_failed))) none
    (renewed_is (touched_in s id (cmd.Auth scheme auth)) s i id (with_seq seq x) (reply.Err auth_failed) (the_one id))

-- an id was shown
pub shown_one : (s : State) (i t id seq : ℕ) (x : Session) (scheme auth made : List ℕ) → Some made ≡ shown_id scheme auth → IsPlan (touched_in s id (cmd.Auth scheme auth)) s (act (record s { applied = i; sessions = map.insert s.sessions id (with_seq seq x) }) id x.ids i t (cmd.Auth scheme auth)) (session_plan id (with_id made (with_seq seq x)) reply.Done)
unfolding act
shown_one s i t id seq x scheme auth made is =
    let m : Sessions = map.insert s.sessions id (with_seq seq x) in
    let z : State = record s { applied = i; sessions = m } in
    let p : Plan = session_plan id (with_id made (with_seq seq x)) reply.Done in
    let k : Touched = touched_in s id (cmd.Auth scheme auth) in
    subst (λ o. IsPlan k s (shows z id o) p) is (
    subst (λ o. IsPlan k s (replies (record z { sessions = renewed (with_id made) id o m }) reply.Done) p) (sym (session_there s.sessions id (with_seq seq x))) (
    subst (λ y. IsPlan k s (replies (record z { sessions = y }) reply.Done) p) (sym (set_again s.sessions id (with_seq seq x) (with_id made (with_seq seq x))))
    (renewed_is k s i id (with_id made (with_seq seq x)) reply.Done (the_one id))))
