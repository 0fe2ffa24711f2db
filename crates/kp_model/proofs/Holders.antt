-- Entries keep the holders of sessions distinct.
use Rattle.std.proofs.Common.{◌≡◌, ℕ, ◌+◌, ◌==◌, Bool, true, false, not, ◌&&◌, ◌||◌, cond, ◌⊎◌, inl, inr, List, [], ◌∷◌, ◌++◌, length, Option, Some, None, IsTrue, refl, sym, ap, subst, ◌∙◌, true≢false}
use Rattle.std.specs.Prelude.{ℤ, nat_le, unwrap_or}
use Rattle.std.specs.List.{list_any}
use Rattle.std.specs.Str.{bytes_eq}
use Rattle.std.specs.Ordering.{nat_cmp}
use Rattle.std.specs.Cmp.{nat_cmp_total, nat_eq_equiv}
use Rattle.std.specs.FinMap as map
use Rattle.std.specs.FinMap.{nat_cmp-IsAntisymmetric}
use Rattle.kp_model.specs.LogEntry.{LogEntry}
use Rattle.kp_model.specs.declared.node.Acl.{Acl}
use Rattle.kp_model.specs.declared.session.Session.{Session}
use Rattle.kp_model.specs.declared.session.Origin.{Origin}
use Rattle.kp_model.specs.declared.entry.Body.{Body}
use Rattle.kp_model.specs.declared.entry.Body.TheVariants as body
use Rattle.kp_model.specs.declared.reply.OpReply.{OpReply}
use Rattle.kp_model.specs.declared.reply.Event.{Event}
use Rattle.kp_model.specs.declared.command.Op.{Op}
use Rattle.kp_model.specs.declared.command.Op.TheVariants as op
use Rattle.kp_model.specs.declared.command.Cmd.{Cmd}
use Rattle.kp_model.specs.declared.command.Cmd.TheVariants as cmd
use Rattle.kp_model.specs.Path.{is_well_formed}
use Rattle.kp_model.specs.Fixed.{fixed}
use Rattle.kp_model.specs.State.{State, Sessions, same_origin, is_held}
use Rattle.kp_model.specs.Step.{Outcome, replies, unless, created, deleted, set, set_acl_fails, set_acl, act_on, error_of, op_reply, failure, stop_at, multi, shown_id, with_id, renewed, shows, closed, act, new_session, opened, taken_over, joined, attached_to, expired, with_seq, written_by, take_body, apply}
use Rattle.kp_model.specs.Good.{HasDistinctHolders}
use Rattle.kp_model.proofs.Maps.{no_value_passes, none_of, inserted_or_there, left_there}

-- ---- origins

same_three : (a a' b b' c c' : Bool) → a ≡ a' → b ≡ b' → c ≡ c' → (a && (b && c)) ≡ (a' && (b' && c'))
same_three a a' b b' c c' p q r = λ i. p i && (q i && r i)

pub same_origin_sym : (a b : Origin) → same_origin a b ≡ same_origin b a
same_origin_sym a b = same_three _ _ _ _ _ _ (nat_eq_equiv.symm a.node b.node) (nat_eq_equiv.symm a.boot b.boot) (nat_eq_equiv.symm a.conn b.conn)

-- ---- one session is set

-- two sessions of one holder, each the new one or one that was there
added_by : (m : Sessions) (k : ℕ) (v : Session) → HasDistinctHolders m → ((q : ℕ) (x : Session) → map.get m q ≡ Some x → same_origin x.holder v.holder ≡ false)
    → (a b : ℕ) (x y : Session) → (a ≡ k) × (x ≡ v) ⊎ (map.get m a ≡ Some x) → (b ≡ k) × (y ≡ v) ⊎ (map.get m b ≡ Some y)
    → IsTrue (same_origin x.holder y.holder) → a ≡ b
added_by m k v distinct free a b x y (inl p) (inl q) one = p.0 ∙ sym q.0
added_by m k v distinct free a b x y (inl p) (inr there) one =
    absurd (true≢false (sym one ∙ ap (λ (z : Session). same_origin z.holder y.holder) p.1 ∙ same_origin_sym v.holder y.holder ∙ free b y there))
added_by m k v distinct free a b x y (inr there) (inl q) one =
    absurd (true≢false (sym one ∙ ap (λ (z : Session). same_origin x.holder z.holder) q.1 ∙ free a x there))
added_by m k v distinct free a b x y (inr there) (inr too) one = distinct a b x y there too one

-- a session whose holder holds none
holders_added : (m : Sessions) (k : ℕ) (v : Session) → HasDistinctHolders m → ((q : ℕ) (x : Session) → map.get m q ≡ Some x → same_origin x.holder v.holder ≡ false)
    → HasDistinctHolders (map.insert m k v)
holders_added m k v distinct free a b x y here there one = added_by m k v distinct free a b x y
    (inserted_or_there nat_cmp_total nat_cmp-IsAntisymmetric m k v a x here) (inserted_or_there nat_cmp_total nat_cmp-IsAntisymmetric m k v b y there) one

kept_by : (m : Sessions) (k : ℕ) (old v : Session) → map.get m k ≡ Some old → v.holder ≡ old.holder → HasDistinctHolders m
    → (a b : ℕ) (x y : Session) → (a ≡ k) × (x ≡ v) ⊎ (map.get m a ≡ Some x) → (b ≡ k) × (y ≡ v) ⊎ (map.get m b ≡ Some y)
    → IsTrue (same_origin x.holder y.holder) → a ≡ b
kept_by m k old v was holder distinct a b x y (inl p) (inl q) one = p.0 ∙ sym q.0
kept_by m k old v was holder distinct a b x y (inl p) (inr there) one =
    p.0 ∙ distinct k b old y was there (subst (λ h. IsTrue (same_origin h y.holder)) (ap (λ (z : Session). z.holder) p.1 ∙ holder) one)
kept_by m k old v was holder distinct a b x y (inr there) (inl q) one =
    distinct a k x old there was (subst (λ h. IsTrue (same_origin x.holder h)) (ap (λ (z : Session). z.holder) q.1 ∙ holder) one) ∙ sym q.0
kept_by m k old v was holder distinct a b x y (inr there) (inr too) one = distinct a b x y there too one

-- a session that keeps its holder
holders_kept : (m : Sessions) (k : ℕ) (old v : Session) → map.get m k ≡ Some old → v.holder ≡ old.holder → HasDistinctHolders m → HasDistinctHolders (map.insert m k v)
holders_kept m k old v was holder distinct a b x y here there one = kept_by m k old v was holder distinct a b x y
    (inserted_or_there nat_cmp_total nat_cmp-IsAntisymmetric m k v a x here) (inserted_or_there nat_cmp_total nat_cmp-IsAntisymmetric m k v b y there) one

-- ---- a session goes

holders_left : (m : Sessions) (k : ℕ) → HasDistinctHolders m → HasDistinctHolders (map.remove m k)
holders_left m k distinct a b x y here there one = distinct a b x y
    (left_there nat_cmp_total nat_cmp-IsAntisymmetric m k a x here).1 (left_there nat_cmp_total nat_cmp-IsAntisymmetric m k b y there).1 one

-- ---- operations leave the sessions alone

unless_sessions : (e : Option ℤ) (s : State) (o : Outcome) → o.state.sessions ≡ s.sessions → (unless e s o).state.sessions ≡ s.sessions
unless_sessions None s o h = h
unless_sessions (Some e) s o h = refl

pub act_on_sessions : (s : State) (session : ℕ) (ids : List (List ℕ)) (i t : ℕ) (o : Op) → (act_on s session ids i t o).state.sessions ≡ s.sessions
unfolding created deleted set
act_on_sessions s session ids i t (op.Create path bytes acl flags with_stat) = unless_sessions _ s _ refl
act_on_sessions s session ids i t (op.Delete path version) = unless_sessions _ s _ refl
act_on_sessions s session ids i t (op.SetData path bytes version) = unless_sessions _ s _ refl
act_on_sessions s session ids i t (op.Check path version) = unless_sessions _ s _ refl

stop_sessions : (o : Option ℤ) (failed : ℤ → Outcome) (rest : Outcome) (m : Sessions) → ((e : ℤ) → (failed e).state.sessions ≡ m) → rest.state.sessions ≡ m
    → (stop_at o failed rest).state.sessions ≡ m
stop_sessions None failed rest m f r = r
stop_sessions (Some e) failed rest m f r = f e

multi_sessions : (old s : State) (session : ℕ) (ids : List (List ℕ)) (i t : ℕ) (answers : List OpReply) (events : List Event) (ops : List Op)
    → s.sessions ≡ old.sessions → (multi old s session ids i t answers events ops).state.sessions ≡ old.sessions
unfolding multi
multi_sessions old s session ids i t answers events [] same = same
multi_sessions old s session ids i t answers events (o ∷ ops) same =
    let done = act_on s session ids i t o in
    stop_sessions (error_of done.reply) (λ code. replies old (failure (length answers) code (length ops))) _ old.sessions (λ _. refl)
    (multi_sessions old done.state session ids i t (answers ++ op_reply done.reply ∷ []) (events ++ done.events) ops (act_on_sessions s session ids i t o ∙ same))

-- ---- commands

-- an outcome whose sessions have distinct holders
abbrev IsApart : Outcome → Type 0
IsApart o = HasDistinctHolders o.state.sessions

chosen_apart : (b : Bool) (x y : Outcome) → IsApart x → (b ≡ false → IsApart y) → IsApart (cond b x y)
chosen_apart true x y p q = p
chosen_apart false x y p q = q refl

op_apart : (s : State) (session : ℕ) (ids : List (List ℕ)) (i t : ℕ) (o : Op) → HasDistinctHolders s.sessions → IsApart (act_on s session ids i t o)
op_apart s session ids i t o distinct = subst HasDistinctHolders (sym (act_on_sessions s session ids i t o)) distinct

multi_apart : (s : State) (session : ℕ) (ids : List (List ℕ)) (i t : ℕ) (ops : List Op) → HasDistinctHolders s.sessions → IsApart (multi s s session ids i t [] [] ops)
multi_apart s session ids i t ops distinct = subst HasDistinctHolders (sym (multi_sessions s s session ids i t [] [] ops refl)) distinct

set_acl_apart : (s : State) (path : List ℕ) (acl : List Acl) (e : Option ℤ) → HasDistinctHolders s.sessions → IsApart (unless e s (set_acl s path acl))
unfolding set_acl
set_acl_apart s path acl e distinct = subst HasDistinctHolders (sym (unless_sessions e s (set_acl s path acl) refl)) distinct

holder_chosen : (b : Bool) (x y : Session) (origin : Origin) → x.holder ≡ origin → y.holder ≡ origin → (cond b x y).holder ≡ origin
holder_chosen true x y origin p q = p
holder_chosen false x y origin p q = q

with_id_holder : (id : List ℕ) (x : Session) → (with_id id x).holder ≡ x.holder
with_id_holder id x = holder_chosen (list_any (bytes_eq id) x.ids) x _ x.holder refl refl

renewed_apart : (id : List ℕ) (session : ℕ) (m : Sessions) (o : Option Session) → map.get m session ≡ o → HasDistinctHolders m → HasDistinctHolders (renewed (with_id id) session o m)
renewed_apart id session m None found distinct = distinct
renewed_apart id session m (Some x) found distinct = holders_kept m session x (with_id id x) found (with_id_holder id x) distinct

shows_apart : (s : State) (session : ℕ) (o : Option (List ℕ)) → HasDistinctHolders s.sessions → IsApart (shows s session o)
shows_apart s session None distinct = distinct
shows_apart s session (Some id) distinct = renewed_apart id session s.sessions _ refl distinct

closed_apart : (s : State) (i session : ℕ) → HasDistinctHolders s.sessions → IsApart (closed s i session)
unfolding closed
closed_apart s i session distinct = holders_left s.sessions session distinct

act_apart : (s : State) (session : ℕ) (ids : List (List ℕ)) (i t : ℕ) (c : Cmd) → HasDistinctHolders s.sessions → IsApart (act s session ids i t c)
unfolding act
act_apart s session ids i t (cmd.Create path bytes acl flags with_stat) distinct = op_apart s session ids i t (op.Create path bytes acl flags with_stat) distinct
act_apart s session ids i t (cmd.Delete path version) distinct = op_apart s session ids i t (op.Delete path version) distinct
act_apart s session ids i t (cmd.SetData path bytes version) distinct = op_apart s session ids i t (op.SetData path bytes version) distinct
act_apart s session ids i t (cmd.SetAcl path acl version) distinct =
    set_acl_apart s path (unwrap_or (fixed ids acl) []) (set_acl_fails s.nodes ids path acl version) distinct
act_apart s session ids i t (cmd.Check path version) distinct = op_apart s session ids i t (op.Check path version) distinct
act_apart s session ids i t (cmd.Auth scheme auth) distinct = shows_apart s session (shown_id scheme auth) distinct
act_apart s session ids i t (cmd.Multi ops) distinct = multi_apart s session ids i t ops distinct
act_apart s session ids i t (cmd.Sync path) distinct = chosen_apart (is_well_formed path) _ _ distinct (λ _. distinct)
act_apart s session ids i t cmd.CloseSession distinct = closed_apart s i session distinct

-- ---- bodies

free_origin : (m : Sessions) (origin : Origin) → is_held m origin ≡ false → (q : ℕ) (x : Session) → map.get m q ≡ Some x → same_origin x.holder origin ≡ false
unfolding is_held
free_origin m origin none q x found = no_value_passes nat_cmp (λ (x : Session). same_origin x.holder origin) m q x none found

opened_apart : (s : State) (timeout : ℕ) (passwd : List ℕ) (origin : Origin) → HasDistinctHolders s.sessions → IsApart (opened s timeout passwd origin)
unfolding opened
opened_apart s timeout passwd origin distinct = chosen_apart (is_held s.sessions origin || nat_le 4611686018427387904 s.next) _ _ distinct
    (λ e. holders_added s.sessions s.next (new_session timeout passwd origin) distinct (free_origin s.sessions origin (none_of _ _ e).0))

joined_apart : (x : Session) (s : State) (session : ℕ) (origin : Origin) → HasDistinctHolders s.sessions → IsApart (joined x s session origin)
joined_apart x s session origin distinct = chosen_apart (is_held s.sessions origin || nat_le 4611686018427387904 x.epoch) _ _ distinct
    (λ e. holders_added s.sessions session (taken_over origin x) distinct (free_origin s.sessions origin (none_of _ _ e).0))

attached_apart : (o : Option Session) (s : State) (session : ℕ) (passwd : List ℕ) (origin : Origin) → HasDistinctHolders s.sessions → IsApart (attached_to o s session passwd origin)
attached_apart None s session passwd origin distinct = distinct
attached_apart (Some x) s session passwd origin distinct = chosen_apart (not (bytes_eq x.passwd passwd)) _ _ distinct (λ _. joined_apart x s session origin distinct)

expired_apart : (o : Option Session) (s : State) (i session : ℕ) → HasDistinctHolders s.sessions → IsApart (expired o s i session)
expired_apart None s i session distinct = distinct
expired_apart (Some x) s i session distinct = closed_apart s i session distinct

written_apart : (o : Option Session) (s : State) (i t session epoch seq : ℕ) (c : Cmd) → map.get s.sessions session ≡ o → HasDistinctHolders s.sessions → IsApart (written_by o s i t session epoch seq c)
written_apart None s i t session epoch seq c found distinct = distinct
written_apart (Some x) s i t session epoch seq c found distinct = chosen_apart (not (epoch == x.epoch && seq == x.seq + 1)) _ _ distinct
    (λ _. act_apart (record s { sessions = map.insert s.sessions session (with_seq seq x) }) session x.ids i t c (holders_kept s.sessions session x (with_seq seq x) found refl distinct))

taken_apart : (s : State) (i t : ℕ) (b : Body) → HasDistinctHolders s.sessions → IsApart (take_body s i t b)
unfolding take_body
taken_apart s i t body.Noop distinct = distinct
taken_apart s i t (body.OpenSession timeout passwd origin) distinct = opened_apart s timeout passwd origin distinct
taken_apart s i t (body.Attach session passwd origin) distinct = attached_apart _ s session passwd origin distinct
taken_apart s i t (body.Expire session) distinct = expired_apart _ s i session distinct
taken_apart s i t (body.Write session epoch seq c) distinct = written_apart _ s i t session epoch seq c refl distinct

-- an entry keeps the holders distinct
pub apply_holders : (s : State) (e : LogEntry) → HasDistinctHolders s.sessions → HasDistinctHolders (apply s e).state.sessions
unfolding apply
apply_holders s e distinct = taken_apart _ _ _ e.body distinct
