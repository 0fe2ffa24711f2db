-- In every step each live connection serves its session, and each answer is of its epoch.
use Rattle.std.proofs.Common.{◌≡◌, ℕ, ◌==◌, Bool, true, false, ◌&&◌, not, List, [], ◌∷◌, ◌++◌, length, Option, Some, None, refl, sym, subst, eqb-true}
use Rattle.std.proofs.lemmas.Bool.{eq-eqb}
use Rattle.std.specs.Prelude.{if◌then◌else◌, nat_lt}
use Rattle.std.specs.List.{AllByRecursion}
use Rattle.std.specs.FinMap as map
use Rattle.kp_model.specs.declared.entry.Body.{Body}
use Rattle.kp_model.specs.declared.entry.Body.TheVariants as body
use Rattle.kp_model.specs.declared.reply.Event.{Event}
use Rattle.kp_model.specs.declared.reply.Reply.{Reply}
use Rattle.kp_model.specs.declared.reply.Reply.TheVariants as reply
use Rattle.kp_model.specs.declared.session.Origin.{Origin}
use Rattle.kp_model.specs.declared.session.Session.{Session}
use Rattle.kp_model.specs.LogEntry.{LogEntry}
use Rattle.kp_model.specs.State.{State, same_origin}
use Rattle.kp_model.specs.Step.{apply}
use Rattle.kp_model.specs.Store.{after}
use Rattle.kp_model.specs.Taken.{is_stale}
use Rattle.kp_model.proofs.Maps.{same_value, no_value}
use Rattle.kp_raft.specs.Parts as raft
use Rattle.kp_wire.specs.declared.connect.ConnectRequest.{ConnectRequest}
use Rattle.kp_wire.specs.declared.request.Request.{Request}
use Rattle.kp_wire.specs.declared.reply.WireReply.{WireReply}
use Rattle.kp_wire.specs.declared.reply.WireReply.TheVariants as sent
use Rattle.kp_watch.specs.declared.watch.Watch.{Watch}
use Rattle.kp_watch.specs.Watching.{fired}
use Rattle.kp_conn.specs.declared.fed.Fed.{Fed}
use Rattle.kp_conn.specs.declared.fed.FedEnd.{FedEnd}
use Rattle.kp_conn.specs.declared.fed.FedEnd.TheVariants as ends
use Rattle.kp_conn.specs.declared.waiting.Waiting.{Waiting}
use Rattle.kp_conn.specs.Queue.{awaited}
use Rattle.kp_conn.specs.declared.phase.Phase.{Phase}
use Rattle.kp_conn.specs.declared.phase.Phase.TheVariants as phase
use Rattle.kp_conn.specs.Connection.{Connection, closed, opened, put, serving, is_over}
use Rattle.kp_conn.specs.Fed.{fed}
use Rattle.kp_conn.specs.Packets.{connect_packet}
use Rattle.kp_step.specs.declared.seat.Seat.{Seat}
use Rattle.kp_step.specs.Choices.{Choices, Luck}
use Rattle.kp_step.specs.Node.{Node}
use Rattle.kp_step.specs.Answers.{code_of, by_term, by_move, by_end}
use Rattle.kp_step.specs.Settling.{Told, settled, stays, given_out, told_by}
use Rattle.kp_step.specs.Handing.{Ground, Desk, Served, served, joined_all, first_served, served_as, serves, ended_by, ground, desk, greeting, greeted_as, is_refused, is_led}
use Rattle.kp_step.specs.Tables.{Table, tabled}
use Rattle.kp_step.specs.Committing.{hears, packets_for, is_of, is_in, replied_in, replied_to, attached_to, applied_to, meaning, newcomer, session_of, session_at, number_in, greeted_in, greeted_at, greeted_by, greeted, informed, committed}
use Rattle.kp_step.specs.Asking.{Words, client_served}
use Rattle.kp_step.specs.Step.{client_table, raft_table, risen_as, risen, ended, rose, with_row_if}
use Rattle.kp_step.specs.Runs.{done_by}
use Rattle.kp_step.proofs.Tables.{no}
use Rattle.kp_step.proofs.Serves.{choose}
use Rattle.kp_cluster.specs.Epochs.{IsNumbered, attaches}
use Rattle.kp_cluster.specs.Serving.{conn_at, PhaseServes, state_behind, IsOfEpoch}
use Rattle.kp_cluster.proofs.EpochPhases.{Keeps, given_keeps, join_keeps, end_keeps, fed_keeps, first_keeps}
use Rattle.kp_cluster.proofs.EpochTables.{AtSeat, AllAt, IsFine, IsFit, RowFits, row_fine, row_if_fine, served_fine, Suits, settled_fits, settle_all_fine, Shuts, refuse_if_fits}
use Rattle.kp_cluster.proofs.EpochServing.{PhaseSpared, phase_on, newcomer_is, newcomer_serves, serves_suits, moved_tells, serves_shuts}

either : {A : Type 0} (P : A → Type 0) (b : Bool) (x y : A) → P x → (b ≡ false → P y) → P (if b then x else y)
either P true x y p q = p
either P false x y p q = q refl

-- ---- bytes of a connection

-- a connection behind its bytes
record IsGiven (P : Phase → Type 0) (T : Told → Type 0) (w : Served) : Type 0 where
  phase : P w.connection.phase
  told : AllByRecursion T w.told

module _ (P : Phase → Type 0) (T : Told → Type 0) where
  served_given : (g : Ground) → Suits P T g.state.applied → (luck : Luck) (k : ℕ) (ws : List Watch) (c : Connection) (d : Desk) (f : Fed) → P c.phase → IsGiven P T (served g luck k ws c d f)
  unfolding served
  served_given g h luck k ws c d f p = let j = joined_all g luck.requests c d f.requests in
      let s = settled g.state k luck.answers ws j.connection j.connection.queue in
      let fit : IsFit P T s = settled_fits g.state k P T h luck.answers ws j.connection j.connection.queue (h.keeps c.phase j.connection.phase (join_keeps g luck.requests c d f.requests) p) in record {
        phase = h.keeps s.connection.phase (ended_by f.end s.connection).phase (end_keeps f.end s.connection) fit.phase;
        told = fit.told;
      }

  none_told : (g : Ground) (k : ℕ) (draw : List ℕ) (text : List ℕ → List ℕ) (c : Connection) (d : Desk) (ws : List Watch) (o : Option ConnectRequest) (e : FedEnd) → AllByRecursion T (first_served g k draw text c d ws o e).told
  none_told g k draw text c d ws (Some q) e = choose (λ (w : Served). AllByRecursion T w.told) (is_refused q) _ _ tt (choose (λ (w : Served). AllByRecursion T w.told) (is_led g d) _ _ tt tt)
  none_told g k draw text c d ws None ends.Ok = tt
  none_told g k draw text c d ws None (ends.Bad at) = tt
  none_told g k draw text c d ws None (ends.Word w) = tt

  first_given : (g : Ground) → Suits P T g.state.applied → (k : ℕ) (draw : List ℕ) (text : List ℕ → List ℕ) (c : Connection) (d : Desk) (ws : List Watch) (o : Option ConnectRequest) (e : FedEnd) → P c.phase → IsGiven P T (first_served g k draw text c d ws o e)
  first_given g h k draw text c d ws o e p = record { phase = h.keeps c.phase (first_served g k draw text c d ws o e).connection.phase (first_keeps g k draw text c d ws o e) p; told = none_told g k draw text c d ws o e }

  as_given : (g : Ground) → Suits P T g.state.applied → (luck : Luck) (k : ℕ) (draw : List ℕ) (text : List ℕ → List ℕ) (d : Desk) (ws : List Watch) (p : Phase) (c : Connection) (f : Fed) → P c.phase → IsGiven P T (served_as g luck k draw text d ws p c f)
  as_given g h luck k draw text d ws phase.Fresh c f p = first_given g h k draw text c d ws f.connect f.end p
  as_given g h luck k draw text d ws (phase.Connecting ro) c f p = first_given g h k draw text c d ws f.connect f.end p
  as_given g h luck k draw text d ws (phase.Live s e n) c f p = served_given g h luck k ws c d f p
  as_given g h luck k draw text d ws (phase.Closing lost) c f p = first_given g h k draw text c d ws f.connect f.end p

  serves_given : (g : Ground) → Suits P T g.state.applied → (luck : Luck) (k : ℕ) (draw : List ℕ) (text : List ℕ → List ℕ) (d : Desk) (ws : List Watch) (c : Connection) (bytes : List ℕ) → P c.phase → IsGiven P T (serves g luck k draw text d ws c bytes)
  unfolding serves
  serves_given g h luck k draw text d ws c bytes p = as_given g h luck k draw text d ws c.phase (fed c bytes).0 (fed c bytes).1 (h.keeps c.phase (fed c bytes).0.phase (fed_keeps c bytes) p)

  -- the connection that an entry makes live
  greet_given : (g : Ground) → Suits P T g.state.applied → Shuts P → (luck : Luck) (k : ℕ) (ws : List Watch) (d : Desk) (c : Connection) (ro : Bool) (id : Option ℕ) (o : Option Session) → session_at g.state id ≡ o
      → ((i : ℕ) (y : Session) → (i == 0) ≡ false → id ≡ Some i → map.get g.state.sessions i ≡ Some y → P (phase.Live i y.epoch 1)) → IsGiven P T (greeted_as g luck k ws d c ro (number_in id) o)
  greet_given g h shut luck k ws d c ro id None e new = record { phase = shut false; told = tt }
  greet_given g h shut luck k ws d c ro None (Some y) e new = absurd (no_value y (sym e))
  greet_given g h shut luck k ws d c ro (Some i) (Some y) e new = let b = opened (greeting ro i y) y.epoch c in
      served_given g h luck k ws (fed b []).0 d (fed b []).1 (h.keeps b.phase (fed b []).0.phase (fed_keeps b [])
      (either (λ (z : Connection). P z.phase) (i == 0) (closed false (put (connect_packet (greeting ro i y)) c)) (serving i y.epoch (put (connect_packet (greeting ro i y)) c)) (shut false) (λ some. new i y some refl e)))

-- ---- what an entry means

-- what is known of an entry's meaning for a connection
record Means (P Q : Phase → Type 0) (T : Told → Type 0) (zxid : ℕ) (mine : Origin) (b : Body) (r : Reply) : Type 0 where
  on : (p : Phase) → P p → PhaseSpared b r mine p → Q p
  shut : Shuts Q
  suits : Suits Q T zxid
  moves : (p : Phase) → P p → (q : Request) (w : WireReply) → T (told_by p zxid q w by_move)

none_spared : (b : Body) (r : Reply) (mine : Origin) → ((id : ℕ) → attaches id b r ≡ false) → (p : Phase) → PhaseSpared b r mine p
none_spared b r mine f phase.Fresh = tt
none_spared b r mine f (phase.Connecting ro) = tt
none_spared b r mine f (phase.Live id e n) = λ a. no _ (f id) a
none_spared b r mine f (phase.Closing lost) = tt

stale_none : (id : ℕ) (b : Body) (r : Reply) → is_stale r ≡ true → attaches id b r ≡ false
stale_none id body.Noop r h = refl
stale_none id (body.OpenSession timeout passwd o) r h = refl
stale_none id (body.Attach session passwd o) reply.Stale h = refl
stale_none id (body.Attach session passwd o) (reply.Err code) h = refl
stale_none id (body.Attach session passwd o) reply.Done h = refl
stale_none id (body.Attach session passwd o) (reply.Session i) h = refl
stale_none id (body.Attach session passwd o) (reply.Epoch epoch) h = no false refl h
stale_none id (body.Attach session passwd o) (reply.Path path) h = refl
stale_none id (body.Attach session passwd o) (reply.PathStat path m) h = refl
stale_none id (body.Attach session passwd o) (reply.Stat m) h = refl
stale_none id (body.Attach session passwd o) (reply.Multi rs) h = refl
stale_none id (body.Attach session passwd o) (reply.Failed codes) h = refl
stale_none id (body.Expire session) r h = refl
stale_none id (body.Write session epoch seq c) r h = refl

spared_own : (a so : Bool) → a ≡ true → (a && not so) ≡ false → so ≡ true
spared_own true true e h = refl
spared_own true false e h = no true h refl
spared_own false so e h = no false refl e

attach_spares : (session : ℕ) (passwd : List ℕ) (o mine : Origin) (epoch : ℕ) (p : Phase) → (is_of session p && not (same_origin o mine)) ≡ false → PhaseSpared (body.Attach session passwd o) (reply.Epoch epoch) mine p
attach_spares session passwd o mine epoch phase.Fresh h = tt
attach_spares session passwd o mine epoch (phase.Connecting ro) h = tt
attach_spares session passwd o mine epoch (phase.Live id e n) h = λ a u same. subst (λ z. same_origin z mine ≡ true) (same_value o u same) (spared_own (id == session) (same_origin o mine) (eq-eqb id session (sym (eqb-true session id a))) h)
attach_spares session passwd o mine epoch (phase.Closing lost) h = tt

module _ (P Q : Phase → Type 0) (T : Told → Type 0) (zxid : ℕ) (mine : Origin) where
  kept_fits : (b : Body) (r : Reply) → Means P Q T zxid mine b r → ((id : ℕ) → attaches id b r ≡ false) → (c d : Connection) → d.phase ≡ c.phase → P c.phase → IsFit Q T (stays d)
  kept_fits b r m f c d e p = record { phase = subst Q (sym e) (m.on c.phase p (none_spared b r mine f c.phase)); told = tt }

  attach_fits : (ch : Choices) (session : ℕ) (passwd : List ℕ) (o : Origin) (r : Reply) → Means P Q T zxid mine (body.Attach session passwd o) r → (k : ℕ) (c : Connection) → P c.phase → IsFit Q T (attached_to ch zxid mine o session r k c)
  attach_fits ch session passwd o (reply.Epoch epoch) m k c p = refuse_if_fits Q T m.shut (is_of session c.phase && not (same_origin o mine)) (ch.luck k).answers zxid by_move c (λ b q. m.moves c.phase p q _) (λ b. m.on c.phase p (attach_spares session passwd o mine epoch c.phase b))
  attach_fits ch session passwd o reply.Stale m k c p = kept_fits (body.Attach session passwd o) reply.Stale m (λ id. refl) c c refl p
  attach_fits ch session passwd o (reply.Err code) m k c p = kept_fits (body.Attach session passwd o) (reply.Err code) m (λ id. refl) c c refl p
  attach_fits ch session passwd o reply.Done m k c p = kept_fits (body.Attach session passwd o) reply.Done m (λ id. refl) c c refl p
  attach_fits ch session passwd o (reply.Session i) m k c p = kept_fits (body.Attach session passwd o) (reply.Session i) m (λ id. refl) c c refl p
  attach_fits ch session passwd o (reply.Path path) m k c p = kept_fits (body.Attach session passwd o) (reply.Path path) m (λ id. refl) c c refl p
  attach_fits ch session passwd o (reply.PathStat path s) m k c p = kept_fits (body.Attach session passwd o) (reply.PathStat path s) m (λ id. refl) c c refl p
  attach_fits ch session passwd o (reply.Stat s) m k c p = kept_fits (body.Attach session passwd o) (reply.Stat s) m (λ id. refl) c c refl p
  attach_fits ch session passwd o (reply.Multi rs) m k c p = kept_fits (body.Attach session passwd o) (reply.Multi rs) m (λ id. refl) c c refl p
  attach_fits ch session passwd o (reply.Failed codes) m k c p = kept_fits (body.Attach session passwd o) (reply.Failed codes) m (λ id. refl) c c refl p

pub replied_phase : (seq : ℕ) (r : Reply) (c : Connection) → (replied_to seq r c).phase ≡ c.phase
replied_phase seq r c = by_wait (awaited seq c.queue) where
  by_wait : (o : Option Waiting) → (replied_in seq r c o).phase ≡ c.phase
  by_wait None = refl
  by_wait (Some w) = refl

module _ (P Q : Phase → Type 0) (T : Told → Type 0) (zxid me boot k : ℕ) where
  abbrev MeansTo : Body → Reply → Type 0
  MeansTo b r = Means P Q T zxid (conn_at me boot k) b r

  applied_fits : (ch : Choices) (b : Body) (r : Reply) → MeansTo b r → (c : Connection) → P c.phase → IsFit Q T (applied_to ch me boot zxid b r k c)
  applied_fits ch body.Noop r m c p = kept_fits P Q T zxid (conn_at me boot k) body.Noop r m (λ id. refl) c c refl p
  applied_fits ch (body.OpenSession timeout passwd o) r m c p = kept_fits P Q T zxid (conn_at me boot k) (body.OpenSession timeout passwd o) r m (λ id. refl) c c refl p
  applied_fits ch (body.Attach session passwd o) r m c p = attach_fits P Q T zxid (conn_at me boot k) ch session passwd o r m k c p
  applied_fits ch (body.Expire session) r m c p = let on = m.on c.phase p (none_spared (body.Expire session) r (conn_at me boot k) (λ id. refl) c.phase) in
      refuse_if_fits Q T m.shut (is_of session c.phase) (ch.luck k).answers zxid by_end c (λ b q. m.suits.tells c.phase on q _ by_end refl) (λ b. on)
  applied_fits ch (body.Write session epoch seq q) r m c p = choose (IsFit Q T) (is_in session epoch c.phase) (stays (replied_to seq r c)) (stays c)
      (kept_fits P Q T zxid (conn_at me boot k) (body.Write session epoch seq q) r m (λ id. refl) c (replied_to seq r c) (replied_phase seq r c) p)
      (kept_fits P Q T zxid (conn_at me boot k) (body.Write session epoch seq q) r m (λ id. refl) c c refl p)

  stale_fits : (ch : Choices) (b : Body) (r : Reply) → MeansTo b r → (c : Connection) → P c.phase → (stale : Bool) → is_stale r ≡ stale → IsFit Q T (if stale then stays c else applied_to ch me boot zxid b r k c)
  stale_fits ch b r m c p true e = kept_fits P Q T zxid (conn_at me boot k) b r m (λ id. stale_none id b r e) c c refl p
  stale_fits ch b r m c p false e = applied_fits ch b r m c p

  meaning_fits : (ch : Choices) (b : Body) (r : Reply) → MeansTo b r → (c : Connection) → P c.phase → IsFit Q T (meaning ch me boot zxid b r k c)
  unfolding meaning
  meaning_fits ch b r m c p = stale_fits ch b r m c p (is_stale r) refl

-- ---- tables

module _ (Q : ℕ → Phase → Type 0) (T : ℕ → Told → Type 0) (ch : Choices) (g : Ground) (suits : (k : ℕ) → Suits (Q k) (T k) g.state.applied) (shut : (k : ℕ) → Shuts (Q k)) (d : Desk) (id : Option ℕ) where
  abbrev Newly : ℕ → Type 0
  Newly k = (i : ℕ) (y : Session) → (i == 0) ≡ false → id ≡ Some i → map.get g.state.sessions i ≡ Some y → Q k (phase.Live i y.epoch 1)

  greet_in_fine : (t : Table) (k : ℕ) (x : Seat) (p : Phase) → Newly k → IsFine Q T t → IsFine Q T (greeted_in ch g d t id k x p).table
  greet_in_fine t k x phase.Fresh new f = f
  greet_in_fine t k x (phase.Connecting ro) new f = let w = greeted_as g (ch.luck k) k t.watches d x.connection ro (number_in id) (session_at g.state id) in
      let v : IsGiven (Q k) (T k) w = greet_given (Q k) (T k) g (suits k) (shut k) (ch.luck k) k t.watches d x.connection ro id (session_at g.state id) refl new in served_fine Q T t k x w f v.phase v.told
  greet_in_fine t k x (phase.Live s e n) new f = f
  greet_in_fine t k x (phase.Closing lost) new f = f

  greet_at_fine : (t : Table) (k : ℕ) (o : Option Seat) → Newly k → IsFine Q T t → IsFine Q T (greeted_at ch g d t id k o).table
  greet_at_fine t k None new f = f
  greet_at_fine t k (Some x) new f = greet_in_fine t k x x.connection.phase new f

  greet_fine : (t : Table) (o : Option ℕ) → ((k : ℕ) → o ≡ Some k → Newly k) → IsFine Q T t → IsFine Q T (greeted_by ch g d t id o).table
  greet_fine t None new f = f
  greet_fine t (Some k) new f = greet_at_fine t k (map.get t.seats k) (new k refl) f

hears_fits : (P : ℕ → Phase → Type 0) (T : ℕ → Told → Type 0) → ((k : ℕ) (p q : Phase) → Keeps p q → P k p → P k q) → (ch : Choices) (pairs : List (ℕ × Event)) → RowFits P P T (hears ch pairs)
hears_fits P T keeps ch pairs k c p = choose (IsFit (P k) (T k)) (is_over c.phase) (stays c) (stays (given_out (ch.luck k).events (packets_for k pairs) c)) (record { phase = p; told = tt })
    (record { phase = keeps k c.phase (given_out (ch.luck k).events (packets_for k pairs) c).phase (given_keeps (ch.luck k).events (packets_for k pairs) c) p; told = tt })

in_time : (stale : Bool) (o : Option ℕ) (k : ℕ) → (if stale then None else o) ≡ Some k → o ≡ Some k
in_time true o k e = absurd (no_value k (sym e))
in_time false o k e = e

-- ---- an entry is applied

module _ (base : State) (done : List LogEntry) (x : Node) (replay : x.state ≡ after base done) (numbered : IsNumbered x.state) where
  -- a connection of the node before an event that applies this entry, if there is one, and behind it
  abbrev pub Before : ℕ → Phase → Type 0
  Before k p = PhaseServes base done x.state (conn_at x.me x.boot k) p

  abbrev pub Behind : Option LogEntry → ℕ → Phase → Type 0
  Behind e k p = PhaseServes base (done_by e done) (state_behind e x.state) (conn_at x.me x.boot k) p

  abbrev pub Tells : Option LogEntry → ℕ → Told → Type 0
  Tells e k t = IsOfEpoch base done x.state e t

  abbrev pub suits : (e : Option LogEntry) (k : ℕ) → Suits (Behind e k) (Tells e k) (state_behind e x.state).applied
  suits e k = serves_suits base done x.state e (conn_at x.me x.boot k)

  means : (e : LogEntry) (k : ℕ) → Means (Before k) (Behind (Some e) k) (Tells (Some e) k) (apply x.state e).state.applied (conn_at x.me x.boot k) e.body (apply x.state e).reply
  means e k = record {
    on = phase_on base done x.state e replay numbered (conn_at x.me x.boot k);
    shut = serves_shuts base (done ++ e ∷ []) (apply x.state e).state (conn_at x.me x.boot k);
    suits = suits (Some e) k;
    moves = moved_tells base done x.state (Some e) (conn_at x.me x.boot k);
  }

  pub committed_fine : (ch : Choices) (now : ℕ) (e : LogEntry) → AllAt Before x.seats → IsFine (Behind (Some e)) (Tells (Some e)) (committed ch x now e).table
  unfolding committed greeted informed
  committed_fine ch now e all = let o = apply x.state e in let f = fired x.watches o.events in
      settle_all_fine ch o.state (Behind (Some e)) (Tells (Some e)) (suits (Some e)) _ _
      (greet_fine (Behind (Some e)) (Tells (Some e)) ch (ground now o.state x) (suits (Some e)) (λ k. serves_shuts base (done ++ e ∷ []) o.state (conn_at x.me x.boot k)) (desk x) (session_of e.body o.reply)
      (informed ch x e.body o) (if is_stale o.reply then None else newcomer x.me x.boot e.body)
      (λ k is i y some got there. newcomer_serves base done x.state e replay numbered (conn_at x.me x.boot k) (newcomer_is x.me x.boot k e.body (in_time (is_stale o.reply) (newcomer x.me x.boot e.body) k is)) i y some got there)
      (row_fine Before (Behind (Some e)) (Tells (Some e)) (meaning ch x.me x.boot o.state.applied e.body o.reply) _ (λ k c p. meaning_fits (Before k) (Behind (Some e) k) (Tells (Some e) k) o.state.applied x.me x.boot k ch e.body o.reply (means e k) c p)
      (row_fine Before Before (Tells (Some e)) (hears ch f.pairs) (tabled x.seats f.left) (hears_fits Before (Tells (Some e)) (λ k. (suits None k).keeps) ch f.pairs) (record { seats = all; told = λ k. tt }))))

  -- ---- bytes

  pub client_fine : (words : Words) (ch : Choices) (now k : ℕ) (bytes : List ℕ) (s : Seat) → map.get x.seats k ≡ Some s → AllAt Before x.seats → IsFine Before (Tells None) (client_table x k s (client_served words ch x now k bytes s))
  unfolding client_served
  client_fine words ch now k bytes s there all = let w = client_served words ch x now k bytes s in
      let v : IsGiven (Before k) (Tells None k) w = serves_given (Before k) (Tells None k) (ground now x.state x) (suits None k) (ch.luck k) k s.draw (words x) (desk x) x.watches s.connection bytes (subst (AtSeat (Before k)) there (all k)) in
      served_fine Before (Tells None) (tabled x.seats x.watches) k s w (record { seats = all; told = λ j. tt }) v.phase v.told

  -- ---- the term rose, an image was taken

  risen_fits : (ch : Choices) (k j : ℕ) (c d : Connection) (p : Phase) → Before k c.phase → IsFit (Before k) (Tells None k) (risen_as ch x.state.applied j d p k c)
  risen_fits ch k j c d phase.Fresh h = record { phase = h; told = tt }
  risen_fits ch k j c d (phase.Connecting ro) h = record { phase = tt; told = tt }
  risen_fits ch k j c d (phase.Live s e n) h = refuse_if_fits (Before k) (Tells None k) (λ lost. tt) (nat_lt 0 (length c.queue)) (ch.luck k).answers x.state.applied by_term c (λ b q. (suits None k).tells c.phase h q (sent.Err (code_of by_term)) by_term refl) (λ b. h)
  risen_fits ch k j c d (phase.Closing lost) h = record { phase = h; told = tt }

  abbrev pub Over : ℕ → Phase → Type 0
  Over k p = is_over p ≡ true

  ended_by_case : (k : ℕ) (c : Connection) (b : Bool) → is_over c.phase ≡ b → IsFit (Over k) (Tells None k) (if b then stays c else stays (closed false c))
  ended_by_case k c true e = record { phase = e; told = tt }
  ended_by_case k c false e = record { phase = refl; told = tt }

  pub raft_fine : {I : Type 0} (ch : Choices) (o : raft.Outcome I) → AllAt Before x.seats → IsFine Before (Tells None) (raft_table ch x o None)
  unfolding raft_table
  raft_fine ch o all = row_if_fine Before (Tells None) (rose x o) (risen ch x.state.applied) (tabled x.seats x.watches) (λ k c h. risen_fits ch k k c c c.phase h) (record { seats = all; told = λ j. tt })

  pub image_fine : {I : Type 0} (ch : Choices) (o : raft.Outcome I) (i : I) → AllAt Before x.seats → IsFine Over (Tells None) (raft_table ch x o (Some i))
  unfolding raft_table
  image_fine ch o i all = row_fine Before Over (Tells None) ended (with_row_if (rose x o) (risen ch x.state.applied) (tabled x.seats x.watches)) (λ k c h. ended_by_case k c (is_over c.phase) refl)
      (row_if_fine Before (Tells None) (rose x o) (risen ch x.state.applied) (tabled x.seats x.watches) (λ k c h. risen_fits ch k k c c c.phase h) (record { seats = all; told = λ j. tt }))
