-- An entry leaves a live connection its session, and gives a new one to the connection that it makes live.
use Rattle.std.proofs.Common.{◌≡◌, ℕ, ◌+◌, ◌==◌, Bool, true, false, not, ◌&&◌, ◌||◌, cond, inl, inr, List, [], ◌∷◌, ◌++◌, Option, Some, None, refl, ap, sym, subst, ◌∙◌, true≢false, eqb-true, arith}
use Rattle.std.proofs.lemmas.Bool.{eq-eqb}
use Rattle.std.specs.Prelude.{if◌then◌else◌, nat_le}
use Rattle.std.specs.Str.{bytes_eq}
use Rattle.std.specs.Ordering.{nat_cmp}
use Rattle.std.specs.FinMap as map
use Rattle.kp_model.specs.declared.entry.Body.{Body}
use Rattle.kp_model.specs.declared.entry.Body.TheVariants as body
use Rattle.kp_model.specs.declared.reply.Reply.{Reply}
use Rattle.kp_model.specs.declared.reply.Reply.TheVariants as reply
use Rattle.kp_model.specs.declared.session.Session.{Session}
use Rattle.kp_model.specs.declared.session.Origin.{Origin}
use Rattle.kp_model.specs.LogEntry.{LogEntry}
use Rattle.kp_model.specs.State.{State, Sessions, is_held, same_origin}
use Rattle.kp_model.specs.Step.{Outcome, replies, new_session, opened, taken_over, joined, attached_to, take_body, apply}
use Rattle.kp_model.specs.Store.{after}
use Rattle.kp_model.proofs.Maps.{same_value, no_value, no_value_passes}
use Rattle.kp_wire.specs.declared.request.Request.{Request}
use Rattle.kp_wire.specs.declared.reply.WireReply.{WireReply}
use Rattle.kp_conn.specs.declared.phase.Phase.{Phase}
use Rattle.kp_conn.specs.declared.phase.Phase.TheVariants as phase
use Rattle.kp_conn.specs.Connection.{is_over}
use Rattle.kp_step.specs.Answers.{Cause, by_state, by_entry, by_lack, by_term, by_move, by_end}
use Rattle.kp_step.specs.Settling.{told_by}
use Rattle.kp_step.specs.Committing.{session_of, conn_of, newcomer}
use Rattle.kp_step.specs.Runs.{done_by}
use Rattle.kp_step.proofs.Tables.{no}
use Rattle.kp_cluster.specs.Epochs.{IsNumbered, epoch_of, attaches, newer, last_epoch}
use Rattle.kp_cluster.specs.Serving.{conn_at, Serves, PhaseServes, state_behind, entries_for, state_for, IsOfEpoch}
use Rattle.kp_cluster.proofs.EpochKeeping.{at_key, Remains}
use Rattle.kp_cluster.proofs.EpochEntries.{origin_of, Going, apply_goes}
use Rattle.kp_cluster.proofs.EpochLists.{raised, epoch_in, found, numbered_on, next_on}
use Rattle.kp_cluster.proofs.EpochMarks.{lives_last, last_push, after_push}
use Rattle.kp_cluster.proofs.EpochPhases.{IsIn, Keeps}
use Rattle.kp_cluster.proofs.EpochTables.{is_move, Suits, Shuts}

-- ---- origins

both : (a b : Bool) → (a && b) ≡ true → (a ≡ true) × (b ≡ true)
both true b e = (refl, e)
both false b e = no false refl e

record Same (a b : Origin) : Type 0 where
  node : a.node ≡ b.node
  boot : a.boot ≡ b.boot
  conn : a.conn ≡ b.conn

same_parts : (a b : Origin) → same_origin a b ≡ true → Same a b
same_parts a b e = let p = both (a.node == b.node) _ e in let q = both (a.boot == b.boot) (a.conn == b.conn) p.1 in
    record { node = eqb-true a.node b.node p.0; boot = eqb-true a.boot b.boot q.0; conn = eqb-true a.conn b.conn q.1 }

same_whole : (a b : Origin) → Same a b → same_origin a b ≡ true
same_whole a b h = λ i. eq-eqb a.node b.node h.node i && (eq-eqb a.boot b.boot h.boot i && eq-eqb a.conn b.conn h.conn i)

-- two that are the same as a third
pub same_both : (a b c : Origin) → same_origin a c ≡ true → same_origin b c ≡ true → same_origin a b ≡ true
same_both a b c e f = let p = same_parts a c e in let q = same_parts b c f in same_whole a b (record { node = p.node ∙ sym q.node; boot = p.boot ∙ sym q.boot; conn = p.conn ∙ sym q.conn })

-- who holds a session doesn't take over another
free_clash : (m : Sessions) (id : ℕ) (x : Session) (o mine : Origin) → map.get m id ≡ Some x → same_origin x.holder mine ≡ true → same_origin o mine ≡ true → is_held m o ≡ false → ⊥
unfolding is_held
free_clash m id x o mine there held same free = true≢false (sym (same_both x.holder o mine held same) ∙ no_value_passes nat_cmp (λ (y : Session). same_origin y.holder o) m id x free there)

-- ---- an entry is applied

newer_is : (epoch : ℕ) (o : Option ℕ) → ((f : ℕ) → o ≡ Some f → f ≡ epoch) → newer (Some epoch) o ≡ Some epoch
newer_is epoch None h = refl
newer_is epoch (Some f) h = ap Some (h f refl)

-- whether the connection is spared by an attach of its session
abbrev pub Spared : Body → Reply → Origin → ℕ → Type 0
Spared b r mine id = attaches id b r ≡ true → (o : Origin) → origin_of b ≡ Some o → same_origin o mine ≡ true

abbrev pub PhaseSpared : Body → Reply → Origin → Phase → Type 0
PhaseSpared b r mine phase.Fresh = Unit {0}
PhaseSpared b r mine (phase.Connecting ro) = Unit {0}
PhaseSpared b r mine (phase.Live id e n) = Spared b r mine id
PhaseSpared b r mine (phase.Closing lost) = Unit {0}

abbrev IsCurrent : ℕ → Origin → Session → Type 0
IsCurrent epoch mine x = (x.epoch ≡ epoch) × (same_origin x.holder mine ≡ true)

left_current : (o p : Option Session) (epoch : ℕ) (mine : Origin) → Remains o p → ((x : Session) → o ≡ Some x → IsCurrent epoch mine x) → (y : Session) → p ≡ Some y → IsCurrent epoch mine y
left_current o None epoch mine r h y e = absurd (no_value y (sym e))
left_current None (Some z) epoch mine r h y e = absurd r
left_current (Some x) (Some z) epoch mine r h y e = subst (IsCurrent epoch mine) (same_value z y e) (r.0 ∙ (h x refl).0, ap (λ k. same_origin k mine) r.1 ∙ (h x refl).1)

module _ (base : State) (done : List LogEntry) (s : State) (e : LogEntry) (replay : s ≡ after base done) (numbered : IsNumbered s) where
  last_on : (id epoch : ℕ) → last_epoch base done id ≡ Some epoch → ((f : ℕ) → epoch_of (apply s e).state id ≡ Some f → f ≡ epoch) → last_epoch base (done ++ e ∷ []) id ≡ Some epoch
  last_on id epoch h f = last_push None base done e id ∙ ap (λ z. newer z (epoch_of (apply (after base done) e).state id)) h ∙ ap (λ t. newer (Some epoch) (epoch_of (apply t e).state id)) (sym replay)
      ∙ newer_is epoch (epoch_of (apply s e).state id) f

  serves_by : (mine : Origin) (id epoch : ℕ) → Serves base done s mine id epoch → Spared e.body (apply s e).reply mine id → Going (raised s) e.body (apply s e) id → Serves base (done ++ e ∷ []) (apply s e).state mine id epoch
  serves_by mine id epoch h spared (inl l) = let current = left_current (map.get s.sessions id) (map.get (apply s e).state.sessions id) epoch mine l.remains h.current in let lt = h.given in let le = next_on s e in record {
    given = omega (arith, lt, le);
    some = h.some;
    last = last_on id epoch h.last (λ f is. let y = found (map.get (apply s e).state.sessions id) f is in sym y.1.1 ∙ (current y.0 y.1.0).0);
    current = current;
  }
  serves_by mine id epoch h spared (inr (inl t)) = absurd (free_clash s.sessions id t.before t.behind.holder mine t.was (h.current t.before t.was).1 (spared t.attached t.behind.holder t.origin) t.free)
  serves_by mine id epoch h spared (inr (inr b)) = let lt = h.given in let same = b.first in absurd (omega (arith, lt, same))

  -- a live connection that is spared serves its session on
  pub phase_on : (mine : Origin) (p : Phase) → PhaseServes base done s mine p → PhaseSpared e.body (apply s e).reply mine p → PhaseServes base (done ++ e ∷ []) (apply s e).state mine p
  phase_on mine phase.Fresh h spared = tt
  phase_on mine (phase.Connecting ro) h spared = tt
  phase_on mine (phase.Live id epoch n) h spared = serves_by mine id epoch h spared ((apply_goes s e).each id)
  phase_on mine (phase.Closing lost) h spared = tt

-- ---- whom an entry makes live

-- a session that an entry opens or gives over for an origin is held by it
abbrev Greets : Body → Origin → Outcome → Type 0
Greets b o out = (id : ℕ) → session_of b out.reply ≡ Some id → (y : Session) × ((map.get out.state.sessions id ≡ Some y) × (y.holder ≡ o))

none_greets : (b : Body) (o : Origin) (out : Outcome) → session_of b out.reply ≡ None → Greets b o out
none_greets b o out none id e = absurd (no_value id (sym e ∙ none))

either_greets : (b : Body) (o : Origin) (c : Bool) (x y : Outcome) → Greets b o x → Greets b o y → Greets b o (cond c x y)
either_greets b o true x y p q = p
either_greets b o false x y p q = q

opened_greets : (s : State) (timeout : ℕ) (passwd : List ℕ) (origin : Origin) → Greets (body.OpenSession timeout passwd origin) origin (opened s timeout passwd origin)
unfolding opened
opened_greets s timeout passwd origin = let b : Body = body.OpenSession timeout passwd origin in
    either_greets b origin (is_held s.sessions origin || nat_le 4611686018427387904 s.next) _ _
    (none_greets b origin (replies s reply.Stale) refl)
    (λ id e. (new_session timeout passwd origin, (at_key s.sessions s.next (new_session timeout passwd origin) id (sym (same_value s.next id e)), refl)))

joined_greets : (s : State) (session : ℕ) (passwd : List ℕ) (origin : Origin) (x : Session) → Greets (body.Attach session passwd origin) origin (joined x s session origin)
joined_greets s session passwd origin x = let b : Body = body.Attach session passwd origin in
    either_greets b origin (is_held s.sessions origin || nat_le 4611686018427387904 x.epoch) _ _
    (none_greets b origin (replies s reply.Stale) refl)
    (λ id e. (taken_over origin x, (at_key s.sessions session (taken_over origin x) id (sym (same_value session id e)), refl)))

attached_greets : (s : State) (session : ℕ) (passwd : List ℕ) (origin : Origin) (o : Option Session) → Greets (body.Attach session passwd origin) origin (attached_to o s session passwd origin)
attached_greets s session passwd origin None = none_greets (body.Attach session passwd origin) origin (attached_to None s session passwd origin) refl
attached_greets s session passwd origin (Some x) = either_greets (body.Attach session passwd origin) origin (not (bytes_eq x.passwd passwd)) _ _
    (none_greets (body.Attach session passwd origin) origin (attached_to None s session passwd origin) refl) (joined_greets s session passwd origin x)

body_greets : (s : State) (i t : ℕ) (b : Body) (o : Origin) → origin_of b ≡ Some o → Greets b o (take_body s i t b)
unfolding take_body
body_greets s i t body.Noop o e = absurd (no_value o (sym e))
body_greets s i t (body.OpenSession timeout passwd origin) o e = subst (λ z. Greets (body.OpenSession timeout passwd origin) z (opened s timeout passwd origin)) (same_value origin o e) (opened_greets s timeout passwd origin)
body_greets s i t (body.Attach session passwd origin) o e = subst (λ z. Greets (body.Attach session passwd origin) z (attached_to (map.get s.sessions session) s session passwd origin)) (same_value origin o e) (attached_greets s session passwd origin (map.get s.sessions session))
body_greets s i t (body.Expire session) o e = absurd (no_value o (sym e))
body_greets s i t (body.Write session epoch seq c) o e = absurd (no_value o (sym e))

greets : (s : State) (e : LogEntry) (o : Origin) → origin_of e.body ≡ Some o → Greets e.body o (apply s e)
unfolding apply
greets s e o h = body_greets (raised s) (s.applied + 1) e.time e.body o h

-- the origin of an entry that is for a connection
abbrev pub IsFor : Body → Origin → Type 0
IsFor b mine = (o : Origin) × ((origin_of b ≡ Some o) × (same_origin o mine ≡ true))

conn_by : (n b : Bool) (o : Origin) (k : ℕ) → (if n && b then Some o.conn else None) ≡ Some k → (n && (b && (o.conn == k))) ≡ true
conn_by true true o k e = eq-eqb o.conn k (same_value o.conn k e)
conn_by true false o k e = absurd (no_value k (sym e))
conn_by false b o k e = absurd (no_value k (sym e))

conn_is : (me boot k : ℕ) (o : Origin) → conn_of me boot o ≡ Some k → same_origin o (conn_at me boot k) ≡ true
conn_is me boot k o e = conn_by (o.node == me) (o.boot == boot) o k e

pub newcomer_is : (me boot k : ℕ) (b : Body) → newcomer me boot b ≡ Some k → IsFor b (conn_at me boot k)
newcomer_is me boot k body.Noop e = absurd (no_value k (sym e))
newcomer_is me boot k (body.OpenSession timeout passwd o) e = (o, (refl, conn_is me boot k o e))
newcomer_is me boot k (body.Attach session passwd o) e = (o, (refl, conn_is me boot k o e))
newcomer_is me boot k (body.Expire session) e = absurd (no_value k (sym e))
newcomer_is me boot k (body.Write session epoch seq c) e = absurd (no_value k (sym e))

module _ (base : State) (done : List LogEntry) (s : State) (e : LogEntry) (replay : s ≡ after base done) (numbered : IsNumbered s) where
  pub newcomer_serves : (mine : Origin) → IsFor e.body mine → (id : ℕ) (y : Session) → (id == 0) ≡ false → session_of e.body (apply s e).reply ≡ Some id → map.get (apply s e).state.sessions id ≡ Some y
      → Serves base (done ++ e ∷ []) (apply s e).state mine id y.epoch
  newcomer_serves mine for id y some got there = let z = greets s e for.0 for.1.0 id got in record {
    given = numbered_on s e numbered id y there;
    some = some;
    last = lives_last None base (done ++ e ∷ []) id y.epoch (ap (λ t. epoch_of t id) (after_push base done e) ∙ ap (λ t. epoch_of (apply t e).state id) (sym replay) ∙ ap epoch_in there);
    current = λ x is. (ap (λ (w : Session). w.epoch) (same_value x y (sym is ∙ there)), ap (λ (w : Session). same_origin w.holder mine) (same_value x z.0 (sym is ∙ z.1.0)) ∙ ap (λ o. same_origin o mine) z.1.1 ∙ for.1.1);
  }

-- ---- phases and answers

in_serves : (base : State) (done : List LogEntry) (s : State) (mine : Origin) (id epoch : ℕ) (p : Phase) → IsIn id epoch p → PhaseServes base done s mine p → Serves base done s mine id epoch
in_serves base done s mine id epoch phase.Fresh i h = absurd i
in_serves base done s mine id epoch (phase.Connecting ro) i h = absurd i
in_serves base done s mine id epoch (phase.Live t f n) i h = subst (λ z. Serves base done s mine z epoch) i.0 (subst (λ z. Serves base done s mine t z) i.1 h)
in_serves base done s mine id epoch (phase.Closing lost) i h = absurd i

serves_keeps : (base : State) (done : List LogEntry) (s : State) (mine : Origin) (p q : Phase) → Keeps p q → PhaseServes base done s mine p → PhaseServes base done s mine q
serves_keeps base done s mine p phase.Fresh k h = tt
serves_keeps base done s mine p (phase.Connecting ro) k h = tt
serves_keeps base done s mine p (phase.Live id epoch n) k h = in_serves base done s mine id epoch p k h
serves_keeps base done s mine p (phase.Closing lost) k h = tt

pub over_serves : (base : State) (done : List LogEntry) (s : State) (mine : Origin) (p : Phase) → is_over p ≡ true → PhaseServes base done s mine p
over_serves base done s mine phase.Fresh o = tt
over_serves base done s mine (phase.Connecting ro) o = tt
over_serves base done s mine (phase.Live id epoch n) o = no false refl o
over_serves base done s mine (phase.Closing lost) o = tt

for_others : (c : Cause) (e : Option LogEntry) (done : List LogEntry) → is_move c ≡ false → entries_for c e done ≡ done_by e done
for_others by_state e done m = refl
for_others by_entry e done m = refl
for_others by_lack e done m = refl
for_others by_term e done m = refl
for_others by_move e done m = no true m refl
for_others by_end e done m = refl

state_others : (c : Cause) (e : Option LogEntry) (s : State) → is_move c ≡ false → state_for c e s ≡ state_behind e s
state_others by_state e s m = refl
state_others by_entry e s m = refl
state_others by_lack e s m = refl
state_others by_term e s m = refl
state_others by_move e s m = no true m refl
state_others by_end e s m = refl

module _ (base : State) (done : List LogEntry) (s : State) (e : Option LogEntry) (mine : Origin) where
  serves_tells : (p : Phase) → PhaseServes base (done_by e done) (state_behind e s) mine p → (q : Request) (r : WireReply) (c : Cause) → is_move c ≡ false → IsOfEpoch base done s e (told_by p (state_behind e s).applied q r c)
  serves_tells phase.Fresh h q r c m n = no true n refl
  serves_tells (phase.Connecting ro) h q r c m n = no true n refl
  serves_tells (phase.Live id epoch k) h q r c m n = record {
    index = refl;
    last = ap (λ es. last_epoch base es id) (for_others c e done m) ∙ h.last;
    current = λ x is. (h.current x (ap (λ (u : State). map.get u.sessions id) (sym (state_others c e s m)) ∙ is)).0;
  }
  serves_tells (phase.Closing lost) h q r c m n = no true n refl

  pub serves_suits : Suits (PhaseServes base (done_by e done) (state_behind e s) mine) (IsOfEpoch base done s e) (state_behind e s).applied
  serves_suits = record { keeps = serves_keeps base (done_by e done) (state_behind e s) mine; tells = serves_tells }

  -- -118 is of the epoch before the entry
  pub moved_tells : (p : Phase) → PhaseServes base done s mine p → (q : Request) (r : WireReply) → IsOfEpoch base done s e (told_by p (state_behind e s).applied q r by_move)
  moved_tells phase.Fresh h q r n = no true n refl
  moved_tells (phase.Connecting ro) h q r n = no true n refl
  moved_tells (phase.Live id epoch k) h q r n = record { index = refl; last = h.last; current = λ x is. (h.current x is).0 }
  moved_tells (phase.Closing lost) h q r n = no true n refl

pub serves_shuts : (base : State) (done : List LogEntry) (s : State) (mine : Origin) → Shuts (PhaseServes base done s mine)
serves_shuts base done s mine lost = tt
