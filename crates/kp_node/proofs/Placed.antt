-- Behind an entry: the index of sessions with a guest in it, which connections changed, and whose watches there are.
use Rattle.std.proofs.Common.{◌≡◌, ℕ, Bool, true, false, cond, not, ◌&&◌, ◌||◌, List, [], ◌∷◌, Option, Some, None, is_some, refl, ap, sym, subst, ◌∙◌}
use Rattle.std.specs.Prelude.{nat_eq, if◌then◌else◌, ◌==◌}
use Rattle.std.specs.List.{list_any, AllByRecursion}
use Rattle.std.specs.Cmp.{nat_eq_equiv}
use Rattle.std.specs.FinMap as map
use Rattle.kp_model.specs.declared.entry.Body.TheVariants as body
use Rattle.kp_model.specs.declared.reply.Reply.{Reply}
use Rattle.kp_model.specs.declared.reply.Reply.TheVariants as reply
use Rattle.kp_model.specs.declared.session.Origin.{Origin}
use Rattle.kp_model.specs.declared.session.Session.{Session}
use Rattle.kp_model.specs.State.{Sessions}
use Rattle.kp_seats.specs.Seating.{Seating, holding}
use Rattle.kp_seats.specs.Serving.{is_that, serves, without}
use Rattle.kp_seats.proofs.Tied.{get-without}
use Rattle.kp_watch.specs.declared.watch.Watch.{Watch}
use Rattle.kp_watch.specs.Watching.{dropped}
use Rattle.kp_wire.specs.declared.connect.ConnectReply.{ConnectReply}
use Rattle.kp_conn.specs.declared.fed.Fed.{Fed}
use Rattle.kp_conn.specs.declared.phase.Phase.{Phase}
use Rattle.kp_conn.specs.declared.phase.Phase.TheVariants as phase
use Rattle.kp_conn.specs.Connection.{Connection, opened, put, is_over, is_lost}
use Rattle.kp_conn.specs.Connection as conn
use Rattle.kp_conn.specs.Fed.{fed}
use Rattle.kp_conn.specs.Packets.{connect_packet}
use Rattle.kp_step.specs.declared.seat.Seat.{Seat}
use Rattle.kp_step.specs.Choices.{Choices}
use Rattle.kp_step.specs.Answers.{by_move}
use Rattle.kp_step.specs.Handing as step
use Rattle.kp_step.specs.Handing.{served}
use Rattle.kp_step.specs.Node.{Seats}
use Rattle.kp_step.specs.Settling.{refused, refused_if}
use Rattle.kp_step.specs.Step.{keeps_watches}
use Rattle.kp_step.specs.Committing.{is_of, conn_of, meaning}
use Rattle.kp_step.proofs.Commits.{refuse_all}
use Rattle.kp_node.specs.declared.welcoming.Welcome.{Welcome}
use Rattle.kp_node.specs.Changing.{ChangedAt, AreKeptBut}
use Rattle.kp_node.specs.Deciding.{kept_watches}
use Rattle.kp_node.specs.Greeting.{Greets, reply_with}
use Rattle.kp_node.specs.Guests.{joined_if}
use Rattle.kp_node.specs.Holding.{AreKept, served_by, served_at}
use Rattle.kp_node.specs.Indexing.{IsServedBut}
use Rattle.kp_node.specs.Meaning.{IsIndexed}
use Rattle.kp_node.specs.Serving.{IsServed}
use Rattle.kp_node.specs.Welcoming.{taken_over, welcome_by}
use Rattle.kp_node.proofs.Informed.{not_over}
use Rattle.kp_node.proofs.Lasting.{served_goes, served_own, fed_goes}
use Rattle.kp_node.proofs.Maps.{no, get-put, same_number}
use Rattle.kp_node.proofs.Meanings.{own}

-- ---- whose watches there are

-- all of them but those of one connection, and then all
all_but : (P : Watch → Type 0) (k : ℕ) → ((w : Watch) → nat_eq w.conn k ≡ true → P w) → (vs : List Watch) → AllByRecursion P (dropped vs k) → AllByRecursion P vs
all_but P k f [] h = tt
all_but P k f (w ∷ vs) h = at (nat_eq w.conn k) refl h (all_but P k f vs) where
  at : (b : Bool) → nat_eq w.conn k ≡ b → AllByRecursion P (cond (not b) (w ∷ dropped vs k) (dropped vs k)) → (AllByRecursion P (dropped vs k) → AllByRecursion P vs) → P w × AllByRecursion P vs
  at true e i more = (f w e, more i)
  at false e i more = (i.0, more i.1)

all_dropped : (P : Watch → Type 0) (k : ℕ) (vs : List Watch) → AllByRecursion P vs → AllByRecursion P (dropped vs k)
all_dropped P k [] h = tt
all_dropped P k (w ∷ vs) h = at (nat_eq w.conn k) (all_dropped P k vs h.1) where
  at : (b : Bool) → AllByRecursion P (dropped vs k) → AllByRecursion P (cond (not b) (w ∷ dropped vs k) (dropped vs k))
  at true i = i
  at false i = (h.0, i)

or_true : (b : Bool) → (b || true) ≡ true
or_true true = refl
or_true false = refl

module _ (ks : List ℕ) (m : Seats) where
  -- one of these connections may get more watches
  pub kept_own : (k : ℕ) (ws vs : List Watch) → list_any (nat_eq k) ks ≡ true → dropped vs k ≡ dropped ws k → AreKeptBut ks m ws → AreKeptBut ks m vs
  kept_own k ws vs there own h = all_but _ k (λ w e. ap (λ b. keeps_watches (map.get m w.conn) || b) (ap (λ j. list_any (nat_eq j) ks) (same_number w.conn k e) ∙ there) ∙ or_true (keeps_watches (map.get m w.conn))) vs
      (subst (AllByRecursion (λ (w : Watch). (keeps_watches (map.get m w.conn) || list_any (nat_eq w.conn) ks) ≡ true)) (sym own) (all_dropped _ k ws h))

  -- or lose them
  pub kept_fewer : (k : ℕ) (p : Phase) (vs : List Watch) → AreKeptBut ks m vs → AreKeptBut ks m (kept_watches k p vs)
  kept_fewer k p vs h = at (is_lost p) where
    at : (b : Bool) → AreKeptBut ks m (if b then dropped vs k else vs)
    at true = all_dropped _ k vs h
    at false = h

-- where few connections changed
pub kept_changed : (ks : List ℕ) (m v : Seats) → ChangedAt ks m v → (ws : List Watch) → AreKept m ws → AreKeptBut ks v ws
kept_changed ks m v c [] h = tt
kept_changed ks m v c (w ∷ ws) h = (at (list_any (nat_eq w.conn) ks) refl, kept_changed ks m v c ws h.1) where
  at : (b : Bool) → list_any (nat_eq w.conn) ks ≡ b → (keeps_watches (map.get v w.conn) || b) ≡ true
  at true e = or_true (keeps_watches (map.get v w.conn))
  at false e = ap (λ o. keeps_watches o || false) (c.same w.conn e) ∙ ap (λ b. b || false) h.0

-- one of the list
pub listed : (ks : List ℕ) (k : ℕ) → ((q : ℕ) → list_any (nat_eq q) ks ≡ false → nat_eq k q ≡ false) → list_any (nat_eq k) ks ≡ true
listed ks k f = at (list_any (nat_eq k) ks) refl where
  at : (b : Bool) → list_any (nat_eq k) ks ≡ b → b ≡ true
  at true e = refl
  at false e = no (nat_eq k k) (f k e) (nat_eq_equiv.refl k)

-- ---- which connections changed

-- one more of them
pub changed_more : (ks : List ℕ) (m u v : Seats) (k : ℕ) → ((q : ℕ) → list_any (nat_eq q) ks ≡ false → nat_eq k q ≡ false) → ChangedAt ks m u → ((q : ℕ) → nat_eq k q ≡ false → map.get v q ≡ map.get u q) → is_some (map.get v k) ≡ is_some (map.get m k) → ChangedAt ks m v
changed_more ks m u v k out c f there = record { same = λ q e. f q (out q e) ∙ c.same q e; there = λ q. at q (nat_eq k q) refl } where
  at : (q : ℕ) (b : Bool) → nat_eq k q ≡ b → is_some (map.get v q) ≡ is_some (map.get m q)
  at q true e = subst (λ j. is_some (map.get v j) ≡ is_some (map.get m j)) (same_number k q e) there
  at q false e = ap is_some (f q e) ∙ c.there q

-- ---- the index of sessions

-- what was joined at a place, or not
abbrev NoneElse : Seating Seat → ℕ → Option ℕ → Type 0
NoneElse u k session = (i : ℕ) → session ≡ Some i → (q : ℕ) → nat_eq k q ≡ false → served_at (map.get u.seats q) ≡ Some i → ⊥

pub not_none : {A : Type 0} (o : Option A) (a : A) → o ≡ None → o ≡ Some a → ⊥
not_none o a n s = no false refl (sym (ap is_some n) ∙ ap is_some s)

the_same : (a b : ℕ) → Some a ≡ Some b → a ≡ b
the_same a b e = ap (value a) e where
  value : ℕ → Option ℕ → ℕ
  value d None = d
  value d (Some n) = n

module _ (u : Seating Seat) (k : ℕ) (x : Seat) where
  put_at : (q : ℕ) (b : Bool) → nat_eq k q ≡ b → map.get (map.insert u.seats k x) q ≡ cond b (Some x) (map.get u.seats q)
  put_at q b e = get-put u.seats k x q ∙ ap (λ z. cond z (Some x) (map.get u.seats q)) e

  unjoined : IsIndexed u → served_by x.connection.phase ≡ None → (q s : ℕ) (b : Bool) → nat_eq k q ≡ b → served_at (map.get (map.insert u.seats k x) q) ≡ Some s → map.get u.sessions q ≡ Some s
  unjoined h none q s true e at = absurd (not_none _ s (ap served_at (put_at q true e) ∙ none) at)
  unjoined h none q s false e at = h q s (sym (ap served_at (put_at q false e)) ∙ at)

  module _ (i : ℕ) (h : IsIndexed u) (serving : served_by x.connection.phase ≡ Some i) (alone : NoneElse u k (Some i)) where
    kept_session : (q s : ℕ) (b : Bool) → nat_eq s i ≡ b → nat_eq k q ≡ false → served_at (map.get u.seats q) ≡ Some s → map.get (without u.sessions i) q ≡ Some s
    kept_session q s true e other at = absurd (alone i refl q other (at ∙ ap Some (same_number s i e)))
    kept_session q s false e other at = get-without u.sessions i q ∙ ap (λ o. cond (not (is_that o i)) o None) (h q s at) ∙ ap (λ z. cond (not z) (Some s) None) e

    joins : (q s : ℕ) (b : Bool) → nat_eq k q ≡ b → served_at (map.get (map.insert u.seats k x) q) ≡ Some s → map.get (map.insert (without u.sessions i) k i) q ≡ Some s
    joins q s true e at = get-put (without u.sessions i) k i q ∙ ap (λ z. cond z (Some i) (map.get (without u.sessions i) q)) e ∙ sym serving ∙ sym (ap served_at (put_at q true e)) ∙ at
    joins q s false e at = get-put (without u.sessions i) k i q ∙ ap (λ z. cond z (Some i) (map.get (without u.sessions i) q)) e ∙ kept_session q s (nat_eq s i) refl e (sym (ap served_at (put_at q false e)) ∙ at)

  pub indexed_joined : (session : Option ℕ) → served_by x.connection.phase ≡ session → IsIndexed u → NoneElse u k session → IsIndexed (joined_if session k (holding u k x))
  indexed_joined None is h alone q s at = unjoined h is q s (nat_eq k q) refl at
  indexed_joined (Some i) is h alone q s at = joins i h is alone q s (nat_eq k q) refl at

  module _ (ks : List ℕ) (out : (q : ℕ) → list_any (nat_eq q) ks ≡ false → nat_eq k q ≡ false) (h : IsServedBut ks u) where
    pub served_joined : (session : Option ℕ) → ((i : ℕ) → session ≡ Some i → (q : ℕ) → list_any (nat_eq q) ks ≡ false → serves u.sessions i q ≡ false) → IsServedBut ks (joined_if session k (holding u k x))
    served_joined None f q e = h q e ∙ sym (ap served_at (put_at q false (out q e)))
    served_joined (Some i) f q e =
        get-put (without u.sessions i) k i q ∙ ap (λ z. cond z (Some i) (map.get (without u.sessions i) q)) (out q e)
        ∙ get-without u.sessions i q ∙ ap (λ z. cond (not z) (map.get u.sessions q) None) (f i refl q e)
        ∙ h q e ∙ sym (ap served_at (put_at q false (out q e)))

-- ---- the session of a guest

opened_served : (r : ConnectReply) (epoch : ℕ) (c : Connection) (i : ℕ) → served_by (opened r epoch c).phase ≡ Some i → r.session ≡ i
opened_served r epoch c i h = at (r.session == 0) h where
  at : (b : Bool) → served_by (if b then conn.closed false (put (connect_packet r) c) else conn.serving r.session epoch (put (connect_packet r) c)).phase ≡ Some i → r.session ≡ i
  at true f = absurd (not_none None i refl f)
  at false f = the_same r.session i f

fed_served : (c : Connection) (i : ℕ) → served_by (fed c []).0.phase ≡ Some i → served_by c.phase ≡ Some i
fed_served c i h = sym ((fed_goes c []).session (not_over (fed c []).0.phase i h)) ∙ h

-- it is the one that its connect request got
pub guest_session : (ro : Bool) (w : Option Welcome) (f : Option Fed) (c c' : Connection) (i : ℕ) → Greets (phase.Connecting ro) w f c c' → served_by c'.phase ≡ Some i → (x : Welcome) × ((w ≡ Some x) × (x.id ≡ i))
guest_session ro None f c c' i h at = absurd (not_none _ i (ap (λ (z : Connection). served_by z.phase) h.0) at)
guest_session ro (Some x) f c c' i h at = (
  x,
  (
    refl,
    opened_served (reply_with ro x) x.epoch c i
        (fed_served (opened (reply_with ro x) x.epoch c) i (ap (λ (z : Connection × Fed). served_by z.0.phase) h.1.1 ∙ at)),
  ),
)

-- and it is that still once it was served
pub served_session : (g : step.Ground) (k : ℕ) (ws ws' : List Watch) (c c' : Connection) (d d' : step.Desk) (f : Fed) (i : ℕ) → IsServed g k ws c d f ws' c' d' → served_by c'.phase ≡ Some i → served_by c.phase ≡ Some i
served_session g k ws ws' c c' d d' f i h at =
    let now : served_by (served g h.0 k ws c d f).connection.phase ≡ Some i = ap (λ (z : Connection). served_by z.phase) (sym h.1.0) ∙ at in
    sym ((served_goes g h.0 k ws c d f).session (not_over (served g h.0 k ws c d f).connection.phase i now)) ∙ now

-- its watches alone came
pub served_others : (g : step.Ground) (k : ℕ) (ws ws' : List Watch) (c c' : Connection) (d d' : step.Desk) (f : Fed) (ks : List ℕ) (m : Seats) → list_any (nat_eq k) ks ≡ true → IsServed g k ws c d f ws' c' d' → AreKeptBut ks m ws → AreKeptBut ks m ws'
served_others g k ws ws' c c' d d' f ks m there h kept =
    subst (AreKeptBut ks m) (sym h.1.2) (kept_fewer ks m k c'.phase (served g h.0 k ws c d f).watches
    (kept_own ks m k ws (served g h.0 k ws c d f).watches there (served_own g h.0 k ws c d f) kept))

-- ---- who served it before

over_not : (session : ℕ) (p : Phase) → is_over p ≡ true → is_of session p ≡ false
over_not session phase.Fresh h = no false refl h
over_not session (phase.Connecting ro) h = no false refl h
over_not session (phase.Live s e n) h = no false refl h
over_not session (phase.Closing lost) h = refl

-- an attach that took a session over leaves no other connection of it
module _ (ch : Choices) (me boot zxid session : ℕ) (passwd : List ℕ) (o : Origin) (epoch k : ℕ) where
  ousts : (c : Connection) (z : Bool) → is_of session c.phase ≡ z → is_of session (refused_if (z && true) (ch.luck k).answers zxid by_move c).connection.phase ≡ false
  ousts c true e = over_not session (refused (ch.luck k).answers zxid by_move c c.queue).connection.phase (refuse_all (λ t. Unit {0}) (ch.luck k).answers zxid by_move (λ p q. tt) c c.queue).over
  ousts c false e = e

  pub attach_ousts : is_that (conn_of me boot o) k ≡ false → (c : Connection) → is_of session (meaning ch me boot zxid (body.Attach session passwd o) (reply.Epoch epoch) k c).connection.phase ≡ false
  unfolding meaning
  attach_ousts other c =
      ap (λ z. is_of session (refused_if (is_of session c.phase && not z) (ch.luck k).answers zxid by_move c).connection.phase) (own me boot zxid o k ∙ other)
      ∙ ousts c (is_of session c.phase) refl

taken_id : (session epoch : ℕ) (x : Option Session) (w : Welcome) → taken_over session epoch x ≡ Some w → w.id ≡ session
taken_id session epoch None w h = absurd (not_none None w refl h)
taken_id session epoch (Some x) w h = ap (λ (o : Option Welcome). id_of session o) (sym h) where
  id_of : ℕ → Option Welcome → ℕ
  id_of d None = d
  id_of d (Some v) = v.id

-- what an attach's welcome says
pub attach_welcome : (m : Sessions) (session : ℕ) (passwd : List ℕ) (o : Origin) (r : Reply) (w : Welcome) → welcome_by m (body.Attach session passwd o) r ≡ Some w → (epoch : ℕ) × ((r ≡ reply.Epoch epoch) × (w.id ≡ session))
attach_welcome m session passwd o reply.Stale w h = absurd (not_none None w refl h)
attach_welcome m session passwd o (reply.Err code) w h = absurd (not_none None w refl h)
attach_welcome m session passwd o reply.Done w h = absurd (not_none None w refl h)
attach_welcome m session passwd o (reply.Session id) w h = absurd (not_none None w refl h)
attach_welcome m session passwd o (reply.Epoch epoch) w h = (epoch, (refl, taken_id session epoch (map.get m session) w h))
attach_welcome m session passwd o (reply.Path path) w h = absurd (not_none None w refl h)
attach_welcome m session passwd o (reply.PathStat path x) w h = absurd (not_none None w refl h)
attach_welcome m session passwd o (reply.Stat x) w h = absurd (not_none None w refl h)
attach_welcome m session passwd o (reply.Multi rs) w h = absurd (not_none None w refl h)
attach_welcome m session passwd o (reply.Failed codes) w h = absurd (not_none None w refl h)
