-- How far a session's writes of an epoch have come, and how each entry moves it.
use Rattle.std.proofs.Common.{◌≡◌, ℕ, ◌+◌, ◌≤◌, ◌<◌, Bool, true, false, not, ◌||◌, cond, List, [], ◌∷◌, ◌++◌, length, Option, Some, None, refl, sym, ap, subst, ◌∙◌, arith}
use Rattle.std.specs.Prelude.{ℤ, nat_le, unwrap_or}
use Rattle.std.specs.List.{list_any}
use Rattle.std.specs.Str.{bytes_eq}
use Rattle.std.specs.Ordering.{nat_cmp, eq_by_cmp}
use Rattle.std.specs.Cmp.{nat_cmp_total}
use Rattle.std.specs.FinMap as map
use Rattle.std.specs.FinMap.{nat_cmp-IsAntisymmetric, get-insert, get-remove}
use Rattle.kp_model.specs.declared.node.Acl.{Acl}
use Rattle.kp_model.specs.declared.session.Session.{Session}
use Rattle.kp_model.specs.declared.session.Origin.{Origin}
use Rattle.kp_model.specs.declared.reply.OpReply.{OpReply}
use Rattle.kp_model.specs.declared.reply.Event.{Event}
use Rattle.kp_model.specs.declared.command.Op.{Op}
use Rattle.kp_model.specs.declared.command.Op.TheVariants as op
use Rattle.kp_model.specs.declared.command.Cmd.{Cmd}
use Rattle.kp_model.specs.declared.command.Cmd.TheVariants as cmd
use Rattle.kp_model.specs.Path.{is_well_formed}
use Rattle.kp_model.specs.Fixed.{fixed}
use Rattle.kp_model.specs.State.{State, Sessions, is_held}
use Rattle.kp_model.specs.Step.{Outcome, replies, unless, created, deleted, set, set_acl_fails, set_acl, act_on, error_of, op_reply, failure, stop_at, multi, shown_id, with_id, renewed, shows, closed, act, new_session, opened, taken_over, joined, attached_to, expired}
use Rattle.kp_model.proofs.Holders.{act_on_sessions}
use Rattle.kp_model.proofs.Maps.{equal}

-- k numbers of the epoch have been used: those of a session that is in the epoch are its running number, and a later
-- epoch has used none; what an earlier epoch has used stays as it is
abbrev pub Stands : ℕ → ℕ → ℕ → ℕ → Option Session → Type 0
Stands next id ep k None = next ≤ id → k ≡ 0
Stands next id ep k (Some x) = (id < next) × (ep ≡ x.epoch → k ≡ x.seq) × (x.epoch < ep → k ≡ 0)

-- the same of a session of a state
abbrev pub StandsIn : ℕ → ℕ → ℕ → State → Type 0
StandsIn id ep k s = Stands s.next id ep k (map.get s.sessions id)

same_number : (q k : ℕ) → eq_by_cmp nat_cmp q k ≡ true → q ≡ k
same_number q k e = nat_cmp-IsAntisymmetric q k (equal (nat_cmp q k) e)

-- ---- one session is set, or goes

by_case : (next id ep k : ℕ) (b : Bool) (v : Session) (o : Option Session)
    → (b ≡ true → Stands next id ep k (Some v)) → (b ≡ false → Stands next id ep k o) → Stands next id ep k (cond b (Some v) o)
by_case next id ep k true v o new old = new refl
by_case next id ep k false v o new old = old refl

pub set_stands : (next id ep k : ℕ) (m : Sessions) (session : ℕ) (v : Session)
    → (id ≡ session → Stands next id ep k (Some v)) → (eq_by_cmp nat_cmp id session ≡ false → Stands next id ep k (map.get m id)) → Stands next id ep k (map.get (map.insert m session v) id)
set_stands next id ep k m session v new old =
    subst (Stands next id ep k) (sym (get-insert nat_cmp_total m session v id))
    (by_case next id ep k (eq_by_cmp nat_cmp id session) v _ (λ e. new (same_number id session e)) old)

-- where there was a session there will be no new one of its number
pub dead : (next id ep k : ℕ) (x : Session) → Stands next id ep k (Some x) → Stands next id ep k None
dead next id ep k x st above = absurd (omega (arith, st.0, above))

dies : (next id ep k : ℕ) (o : Option Session) → Stands next id ep k o → Stands next id ep k None
dies next id ep k None st = st
dies next id ep k (Some x) st = dead next id ep k x st

removed_by : (next id ep k : ℕ) (b : Bool) (o : Option Session) → Stands next id ep k o → Stands next id ep k (cond b None o)
removed_by next id ep k true o st = dies next id ep k o st
removed_by next id ep k false o st = st

pub removed_stands : (next id ep k : ℕ) (m : Sessions) (session : ℕ) → Stands next id ep k (map.get m id) → Stands next id ep k (map.get (map.remove m session) id)
removed_stands next id ep k m session st =
    subst (Stands next id ep k) (sym (get-remove nat_cmp_total m session id)) (removed_by next id ep k (eq_by_cmp nat_cmp id session) _ st)

-- ---- commands leave the numbers alone

record Leaves (s t : State) : Type 0 where
  sessions : t.sessions ≡ s.sessions
  next : t.next ≡ s.next

same_stands : (id ep k : ℕ) (s t : State) → Leaves s t → StandsIn id ep k s → StandsIn id ep k t
same_stands id ep k s t l st =
    subst (λ n. Stands n id ep k (map.get t.sessions id)) (sym l.next) (subst (λ m. Stands s.next id ep k (map.get m id)) (sym l.sessions) st)

unless_next : (e : Option ℤ) (s : State) (o : Outcome) → o.state.next ≡ s.next → (unless e s o).state.next ≡ s.next
unless_next None s o h = h
unless_next (Some e) s o h = refl

act_on_next : (s : State) (session : ℕ) (ids : List (List ℕ)) (i t : ℕ) (o : Op) → (act_on s session ids i t o).state.next ≡ s.next
unfolding created deleted set
act_on_next s session ids i t (op.Create path bytes acl flags with_stat) = unless_next _ s _ refl
act_on_next s session ids i t (op.Delete path version) = unless_next _ s _ refl
act_on_next s session ids i t (op.SetData path bytes version) = unless_next _ s _ refl
act_on_next s session ids i t (op.Check path version) = unless_next _ s _ refl

act_on_leaves : (s : State) (session : ℕ) (ids : List (List ℕ)) (i t : ℕ) (o : Op) → Leaves s (act_on s session ids i t o).state
act_on_leaves s session ids i t o = record { sessions = act_on_sessions s session ids i t o; next = act_on_next s session ids i t o }

stop_stands : (id ep k : ℕ) (o : Option ℤ) (failed : ℤ → Outcome) (rest : Outcome) → ((e : ℤ) → StandsIn id ep k (failed e).state) → StandsIn id ep k rest.state
    → StandsIn id ep k (stop_at o failed rest).state
stop_stands id ep k None failed rest f r = r
stop_stands id ep k (Some e) failed rest f r = f e

multi_stands : (id ep k : ℕ) (old s : State) (session : ℕ) (ids : List (List ℕ)) (i t : ℕ) (answers : List OpReply) (events : List Event) (ops : List Op)
    → StandsIn id ep k old → StandsIn id ep k s → StandsIn id ep k (multi old s session ids i t answers events ops).state
unfolding multi
multi_stands id ep k old s session ids i t answers events [] was st = st
multi_stands id ep k old s session ids i t answers events (o ∷ ops) was st =
    let done = act_on s session ids i t o in
    stop_stands id ep k (error_of done.reply) (λ code. replies old (failure (length answers) code (length ops))) _ (λ _. was)
    (multi_stands id ep k old done.state session ids i t (answers ++ op_reply done.reply ∷ []) (events ++ done.events) ops was
    (same_stands id ep k s done.state (act_on_leaves s session ids i t o) st))

pub chosen_stands : (id ep k : ℕ) (b : Bool) (x y : Outcome) → (b ≡ true → StandsIn id ep k x.state) → (b ≡ false → StandsIn id ep k y.state) → StandsIn id ep k (cond b x y).state
chosen_stands id ep k true x y p q = p refl
chosen_stands id ep k false x y p q = q refl

set_acl_stands : (id ep k : ℕ) (s : State) (path : List ℕ) (acl : List Acl) (e : Option ℤ) → StandsIn id ep k s → StandsIn id ep k (unless e s (set_acl s path acl)).state
unfolding set_acl
set_acl_stands id ep k s path acl None st = st
set_acl_stands id ep k s path acl (Some e) st = st

-- a session that has shown an id has its epoch and its running number still
shown_session : (next id ep k : ℕ) (b : Bool) (x y : Session) → y.epoch ≡ x.epoch → y.seq ≡ x.seq → Stands next id ep k (Some x) → Stands next id ep k (Some (cond b x y))
shown_session next id ep k true x y epoch seq st = st
shown_session next id ep k false x y epoch seq st =
    (st.0, λ e. st.1 (e ∙ epoch) ∙ sym seq, λ l. st.2 (subst (λ n. n < ep) epoch l))

renewed_stands : (next id ep k session : ℕ) (shown : List ℕ) (m : Sessions) (o : Option Session) → map.get m session ≡ o
    → Stands next id ep k (map.get m id) → Stands next id ep k (map.get (renewed (with_id shown) session o m) id)
renewed_stands next id ep k session shown m None found st = st
renewed_stands next id ep k session shown m (Some x) found st = set_stands next id ep k m session (with_id shown x)
    (λ e. shown_session next id ep k (list_any (bytes_eq shown) x.ids) x _ refl refl (subst (Stands next id ep k) (ap (map.get m) e ∙ found) st)) (λ _. st)

shows_stands : (id ep k : ℕ) (s : State) (session : ℕ) (o : Option (List ℕ)) → StandsIn id ep k s → StandsIn id ep k (shows s session o).state
shows_stands id ep k s session None st = st
shows_stands id ep k s session (Some shown) st = renewed_stands s.next id ep k session shown s.sessions _ refl st

pub closed_stands : (id ep k : ℕ) (s : State) (i session : ℕ) → StandsIn id ep k s → StandsIn id ep k (closed s i session).state
unfolding closed
closed_stands id ep k s i session st = removed_stands s.next id ep k s.sessions session st

pub act_stands : (id ep k : ℕ) (s : State) (session : ℕ) (ids : List (List ℕ)) (i t : ℕ) (c : Cmd) → StandsIn id ep k s → StandsIn id ep k (act s session ids i t c).state
unfolding act
act_stands id ep k s session ids i t (cmd.Create path bytes acl flags with_stat) st = same_stands id ep k s _ (act_on_leaves s session ids i t (op.Create path bytes acl flags with_stat)) st
act_stands id ep k s session ids i t (cmd.Delete path version) st = same_stands id ep k s _ (act_on_leaves s session ids i t (op.Delete path version)) st
act_stands id ep k s session ids i t (cmd.SetData path bytes version) st = same_stands id ep k s _ (act_on_leaves s session ids i t (op.SetData path bytes version)) st
act_stands id ep k s session ids i t (cmd.SetAcl path acl version) st =
    set_acl_stands id ep k s path (unwrap_or (fixed ids acl) []) (set_acl_fails s.nodes ids path acl version) st
act_stands id ep k s session ids i t (cmd.Check path version) st = same_stands id ep k s _ (act_on_leaves s session ids i t (op.Check path version)) st
act_stands id ep k s session ids i t (cmd.Auth scheme auth) st = shows_stands id ep k s session (shown_id scheme auth) st
act_stands id ep k s session ids i t (cmd.Multi ops) st = multi_stands id ep k s s session ids i t [] [] ops st st
act_stands id ep k s session ids i t (cmd.Sync path) st = chosen_stands id ep k (is_well_formed path) _ _ (λ _. st) (λ _. st)
act_stands id ep k s session ids i t cmd.CloseSession st = closed_stands id ep k s i session st

-- ---- sessions are opened, taken over and ended

-- where the next number is this session's, there was none of it
first_stands : (id ep k : ℕ) (next : ℕ) (o : Option Session) → id ≡ next → Stands next id ep k o → k ≡ 0
first_stands id ep k next None e st = st (omega (arith, e))
first_stands id ep k next (Some x) e st = absurd (omega (arith, e, st.0))

later_next : (next id ep k : ℕ) (o : Option Session) → Stands next id ep k o → Stands (next + 1) id ep k o
later_next next id ep k None st = λ above. st (omega (arith, above))
later_next next id ep k (Some x) st = (omega (arith, st.0), st.1, st.2)

pub opened_stands : (id ep k : ℕ) (s : State) (timeout : ℕ) (passwd : List ℕ) (origin : Origin) → StandsIn id ep k s → StandsIn id ep k (opened s timeout passwd origin).state
unfolding opened
opened_stands id ep k s timeout passwd origin st = chosen_stands id ep k (is_held s.sessions origin || nat_le 4611686018427387904 s.next) _ _ (λ _. st)
    (λ _. set_stands (s.next + 1) id ep k s.sessions s.next (new_session timeout passwd origin)
    (λ e. (omega (arith, e), λ _. first_stands id ep k s.next _ e st, λ _. first_stands id ep k s.next _ e st))
    (λ _. later_next s.next id ep k _ st))

taken_over_stands : (next id ep k : ℕ) (origin : Origin) (x : Session) → Stands next id ep k (Some x) → Stands next id ep k (Some (taken_over origin x))
taken_over_stands next id ep k origin x st = (st.0, λ e. st.2 (omega (arith, e)), λ l. st.2 (omega (arith, l)))

joined_stands : (id ep k : ℕ) (x : Session) (s : State) (session : ℕ) (origin : Origin) → map.get s.sessions session ≡ Some x → StandsIn id ep k s → StandsIn id ep k (joined x s session origin).state
joined_stands id ep k x s session origin found st = chosen_stands id ep k (is_held s.sessions origin || nat_le 4611686018427387904 x.epoch) _ _ (λ _. st)
    (λ _. set_stands s.next id ep k s.sessions session (taken_over origin x)
    (λ e. taken_over_stands s.next id ep k origin x (subst (Stands s.next id ep k) (ap (map.get s.sessions) e ∙ found) st)) (λ _. st))

pub attached_stands : (id ep k : ℕ) (o : Option Session) (s : State) (session : ℕ) (passwd : List ℕ) (origin : Origin) → map.get s.sessions session ≡ o
    → StandsIn id ep k s → StandsIn id ep k (attached_to o s session passwd origin).state
attached_stands id ep k None s session passwd origin found st = st
attached_stands id ep k (Some x) s session passwd origin found st =
    chosen_stands id ep k (not (bytes_eq x.passwd passwd)) _ _ (λ _. st) (λ _. joined_stands id ep k x s session origin found st)

pub expired_stands : (id ep k : ℕ) (o : Option Session) (s : State) (i session : ℕ) → StandsIn id ep k s → StandsIn id ep k (expired o s i session).state
expired_stands id ep k None s i session st = st
expired_stands id ep k (Some x) s i session st = closed_stands id ep k s i session st
