-- Why a connection ends.
use Rattle.std.proofs.Common.{◌≡◌, ℕ, Bool, true, false, cond, ◌&&◌, ◌||◌, not, inl, inr, List, [], ◌∷◌, ◌++◌, length, Option, Some, None, is_some, refl, ap, sym, subst, ◌∙◌}
use Rattle.std.proofs.lemmas.Cmp.{nat_cmp_total}
use Rattle.std.specs.Prelude.{◌==◌, ◌⊎◌, nat_lt}
use Rattle.std.specs.Ordering.{nat_cmp, eq_by_cmp}
use Rattle.std.specs.FinMap as map
use Rattle.kp_model.specs.declared.entry.Body.{Body}
use Rattle.kp_model.specs.declared.entry.Body.TheVariants as body
use Rattle.kp_model.specs.declared.reply.Event.{Event}
use Rattle.kp_model.specs.declared.reply.Reply.{Reply}
use Rattle.kp_model.specs.declared.reply.Reply.TheVariants as reply
use Rattle.kp_model.specs.declared.session.Origin.{Origin}
use Rattle.kp_model.specs.LogEntry.{LogEntry}
use Rattle.kp_model.specs.State.{State, same_origin}
use Rattle.kp_model.specs.Step.{Outcome, apply}
use Rattle.kp_model.specs.Taken.{is_stale}
use Rattle.kp_raft.specs.declared.mail.Mail.{Mail}
use Rattle.kp_raft.specs.Parts as raft
use Rattle.kp_event.specs.declared.event.NodeEvent.{NodeEvent}
use Rattle.kp_event.specs.declared.event.NodeEventKind.{NodeEventKind}
use Rattle.kp_event.specs.declared.event.NodeEventKind.TheVariants as kind
use Rattle.kp_wire.specs.declared.connect.ConnectReply.{ConnectReply}
use Rattle.kp_wire.specs.declared.reply.WireReply.TheVariants as sent
use Rattle.kp_watch.specs.declared.watch.Watch.{Watch}
use Rattle.kp_watch.specs.Watching.{fired}
use Rattle.kp_conn.specs.declared.phase.Phase.{Phase}
use Rattle.kp_conn.specs.declared.phase.Phase.TheVariants as phase
use Rattle.kp_conn.specs.declared.waiting.Waiting.{Waiting}
use Rattle.kp_conn.specs.Connection.{Connection, blank, closed, put, opened, serving, drained, is_over, is_lost}
use Rattle.kp_conn.specs.Packets.{reply_packet, connect_packet}
use Rattle.kp_conn.specs.Queue.{awaited, is_close}
use Rattle.kp_conn.specs.Fed.{fed, fed_as}
use Rattle.kp_step.specs.declared.seat.Seat.{Seat}
use Rattle.kp_step.specs.Choices.{Choices, is_out, less}
use Rattle.kp_step.specs.Node.{Node, Images}
use Rattle.kp_step.specs.Answers.{Cause, by_term, by_move, by_end, code_of, answer_of}
use Rattle.kp_step.specs.Settling.{Told, Settled, settled, settled_so, with_queue, put_answer, is_end, telling, told_by, session_in, refused, refused_if, stays}
use Rattle.kp_step.specs.Handing.{Joined, joined_one}
use Rattle.kp_step.specs.Tables.{seated}
use Rattle.kp_step.specs.Applying.{upcoming}
use Rattle.kp_step.specs.Committing.{hears, is_of, is_in, replied_in, replied_to, attached_to, applied_to, meaning}
use Rattle.kp_step.specs.Asking.{Words, reacted, installed, asked}
use Rattle.kp_step.specs.Step.{Turn, client_turn, drain_turn, commit_turn, raft_table, risen_as, ended, rose, turned, together, step}
use Rattle.kp_step.specs.Causes.{takes_away, expires}
use Rattle.kp_step.proofs.Tables.{no, tied, get-insert}
use Rattle.kp_step.proofs.Moving.{is_live}
use Rattle.kp_step.proofs.Settles.{by_answer}
use Rattle.kp_step.proofs.Serves.{choose, fed_so}
use Rattle.kp_answers.specs.Whence.{phase_at}
use Rattle.kp_answers.specs.Refused.{served_by}
use Rattle.kp_answers.specs.Ended.{fed_at, EndsByBytes, is_waiting, EndsByEntry, EndsBy, has_end, hangs_up, EndAt, AllShutIsEmpty, EndsAreCaused}
use Rattle.kp_answers.proofs.Walk.{Acts, Allowed, one_goes, pick}
use Rattle.kp_answers.proofs.Places.{At, client_goes, commit_goes, raft_goes}
use Rattle.kp_answers.proofs.Heard as heard
use Rattle.kp_answers.proofs.Heard.{IsHeard, hears_it}
use Rattle.kp_answers.proofs.Wholes.{over_means}

live_open : (p : Phase) → is_live p ≡ true → is_over p ≡ false
live_open phase.Fresh l = refl
live_open (phase.Connecting ro) l = refl
live_open (phase.Live s e n) l = refl
live_open (phase.Closing lost) l = no false refl l

end_left : (t u : List Told) → has_end t ≡ true → has_end (t ++ u) ≡ true
end_left [] u h = no false refl h
end_left (v ∷ t) u h = by_first (is_close v.request.ask) (end_left t u) h where
  by_first : (b : Bool) → (has_end t ≡ true → has_end (t ++ u) ≡ true) → (b || has_end t) ≡ true → (b || has_end (t ++ u)) ≡ true
  by_first true f h = refl
  by_first false f h = f h

end_right : (t u : List Told) → has_end u ≡ true → has_end (t ++ u) ≡ true
end_right [] u h = h
end_right (v ∷ t) u h = or_right (is_close v.request.ask) (end_right t u h) where
  or_right : (b : Bool) → has_end (t ++ u) ≡ true → (b || has_end (t ++ u)) ≡ true
  or_right true h = refl
  or_right false h = h

closes_first : (a b : Bool) → (a && b) ≡ true → a ≡ true
closes_first true b h = refl
closes_first false b h = no false refl h

fed_over : (p : Phase) (c : Connection) (bytes : List ℕ) → c.phase ≡ p → is_over p ≡ true → (fed_as p c bytes).0.phase ≡ c.phase
fed_over phase.Fresh c bytes e o = no false refl o
fed_over (phase.Connecting ro) c bytes e o = refl
fed_over (phase.Live s f n) c bytes e o = refl
fed_over (phase.Closing lost) c bytes e o = refl

-- of one that is over nothing waits
abbrev Shuts : Connection → Type 0
Shuts c = is_over c.phase ≡ true → c.queue ≡ []

module _ (Ends : ℕ → Type 0) where
  abbrev Why : ℕ → Connection → List Told → Type 0
  Why k b ts = (is_lost b.phase ≡ true) ⊎ ((has_end ts ≡ true) ⊎ Ends k)

  -- one that is over stays as it is; one that comes to be over has a cause
  abbrev pub Closing : ℕ → Connection → List Told → Connection → Type 0
  Closing k a ts b = Shuts a → Shuts b × (is_over a.phase ≡ true → b.phase ≡ a.phase) × (is_over a.phase ≡ false → is_over b.phase ≡ true → Why k b ts)

  pub still : (k : ℕ) (c : Connection) → Closing k c [] c
  still k c s = (s, λ o. refl, λ o h. no (is_over c.phase) o h)

  behind : (k : ℕ) (a b c : Connection) (t u : List Told) → Closing k a t b → Closing k b u c → Closing k a (t ++ u) c
  behind k a b c t u f g s = let y = f s in let z = g y.0 in (z.0, λ o. z.1 (ap is_over (y.1 o) ∙ o) ∙ y.1 o, λ o h. by_mid (is_over b.phase) refl o h (y.2 o) z.1 z.2) where
    first : is_over b.phase ≡ true → (is_over b.phase ≡ true → c.phase ≡ b.phase) → Why k b t → Why k c (t ++ u)
    first e z (inl l) = inl (ap is_lost (z e) ∙ l)
    first e z (inr (inl h)) = inr (inl (end_left t u h))
    first e z (inr (inr h)) = inr (inr h)

    second : Why k c u → Why k c (t ++ u)
    second (inl l) = inl l
    second (inr (inl h)) = inr (inl (end_right t u h))
    second (inr (inr h)) = inr (inr h)

    by_mid : (m : Bool) → is_over b.phase ≡ m → is_over a.phase ≡ false → is_over c.phase ≡ true → (is_over b.phase ≡ true → Why k b t) → (is_over b.phase ≡ true → c.phase ≡ b.phase) → (is_over b.phase ≡ false → is_over c.phase ≡ true → Why k c u) → Why k c (t ++ u)
    by_mid true e o h f z g = first e z (f e)
    by_mid false e o h f z g = second (g e h)

  -- nothing ends
  open_still : (k : ℕ) (a b : Connection) → is_over a.phase ≡ false → is_over b.phase ≡ false → Closing k a [] b
  open_still k a b o h s = (λ e. no (is_over b.phase) h e, λ e. no (is_over a.phase) o e, λ e f. no (is_over b.phase) h f)

  -- it ends for a cause
  ends_for : (k : ℕ) (a b : Connection) (ts : List Told) → is_over a.phase ≡ false → b.queue ≡ [] → Why k b ts → Closing k a ts b
  ends_for k a b ts o q w s = (λ e. q, λ e. no (is_over a.phase) o e, λ e f. w)

  takes : (k : ℕ) (c : Connection) (bytes : List ℕ) → Closing k c [] (fed c bytes).0
  unfolding fed
  takes k c bytes s = let h = fed_so c bytes in (λ o. h.queue ∙ s (sym h.over ∙ o), λ o. fed_over c.phase c bytes refl o, λ o e. no (is_over c.phase) o (sym h.over ∙ e))

  -- ---- settling

  abbrev SettleWhy : Connection → Settled → Type 0
  SettleWhy c r = (r.connection.phase ≡ c.phase) ⊎ ((r.connection.queue ≡ []) × ((is_lost r.connection.phase ≡ true) ⊎ (has_end r.told ≡ true)))

  more_why : (c d : Connection) (t : Told) (r : Settled) → d.phase ≡ c.phase → SettleWhy d r → SettleWhy c (telling t r)
  more_why c d t r e (inl h) = inl (h ∙ e)
  more_why c d t r e (inr h) = inr (h.0, by_why h.1) where
    by_why : (is_lost r.connection.phase ≡ true) ⊎ (has_end r.told ≡ true) → (is_lost r.connection.phase ≡ true) ⊎ (has_end (t ∷ r.told) ≡ true)
    by_why (inl l) = inl l
    by_why (inr f) = inr (end_right (t ∷ []) r.told f)

  settle_why : (s : State) (k : ℕ) (n : Option ℕ) (ws : List Watch) (c : Connection) (q : List Waiting) → SettleWhy c (settled s k n ws c q)
  unfolding settled
  settle_why s k n ws c [] = inl refl
  settle_why s k n ws c (w ∷ q) = by_answer (SettleWhy c) (answer_of s (session_in c.phase) k ws w) (is_out n) (settled_so (with_queue (w ∷ q) c) ws) (settled_so (closed true c) ws) _ (λ e. inl refl) (inr (refl, inl refl))
      (λ a e. let b = put_answer s.applied w.request a c in let more = settled s k (less n) a.watches b q in let t = told_by c.phase s.applied w.request a.reply a.cause in
      pick (λ z. SettleWhy c (telling t z)) (is_end w) (settled_so (closed false b) a.watches) more
      (λ f. inr (refl, inr (end_left (t ∷ []) [] (ap (λ z. z || false) (closes_first (is_close w.request.ask) (is_some w.reply) f)))))
      (λ f. more_why c b t more refl (settle_why s k (less n) a.watches b q)))

  settles : (s : State) (k : ℕ) (n : Option ℕ) (ws : List Watch) (c : Connection) → Closing k c (settled s k n ws c c.queue).told (settled s k n ws c c.queue).connection
  unfolding settled
  settles s k n ws c sh = by_over (is_over c.phase) refl (settle_why s k n ws c c.queue) where
    r_of : List Waiting → Settled
    r_of q = settled s k n ws c q

    by_over : (o : Bool) → is_over c.phase ≡ o → SettleWhy c (r_of c.queue) → Shuts (r_of c.queue).connection × (is_over c.phase ≡ true → (r_of c.queue).connection.phase ≡ c.phase) × (is_over c.phase ≡ false → is_over (r_of c.queue).connection.phase ≡ true → Why k (r_of c.queue).connection (r_of c.queue).told)
    by_over true e h = (λ f. ap (λ q. (r_of q).connection.queue) (sh e), λ f. ap (λ q. (r_of q).connection.phase) (sh e), λ f g. no (is_over c.phase) f e)
    by_over false e (inl h) = (λ f. no (is_over c.phase) e (sym (ap is_over h) ∙ f), λ f. h, λ f g. no (is_over c.phase) e (sym (ap is_over h) ∙ g))
    by_over false e (inr h) = (λ f. h.0, λ f. no (is_over c.phase) e f, λ f g. by_why h.1) where
      by_why : (is_lost (r_of c.queue).connection.phase ≡ true) ⊎ (has_end (r_of c.queue).told ≡ true) → Why k (r_of c.queue).connection (r_of c.queue).told
      by_why (inl l) = inl l
      by_why (inr l) = inr (inl l)

  opens : (k : ℕ) (c : Connection) (r : ConnectReply) (epoch : ℕ) → is_over c.phase ≡ false → ((r.session == 0) ≡ true → Ends k) → Closing k c [] (opened r epoch c)
  opens k c r epoch o h = pick (λ (z : Connection). Closing k c [] z) (r.session == 0) _ _ (λ b. ends_for k c (closed false (put (connect_packet r) c)) [] o refl (inr (inr (h b)))) (λ b. open_still k c (serving r.session epoch (put (connect_packet r) c)) o refl)

  pub acts : Acts Closing (λ k. Unit {0}) Ends (λ k q. Unit {0}) (λ w. Unit {0})
  acts = record {
    still = still;
    behind = behind;
    takes = takes;
    joins = λ k g c d q l f h a. open_still k c (joined_one g c d q).connection (live_open c.phase l) (live_open (joined_one g c d q).connection.phase (one_goes g c d q l).0);
    loses = λ k c l. ends_for k c (closed true c) [] (live_open c.phase l) refl (inl refl);
    settles = settles;
    closes = λ k c o u. ends_for k c (closed false c) [] o refl (inr (inr u));
    says = λ k c w o t u. ends_for k c (closed false (put w c)) [] o refl (inr (inr u));
    opens = opens;
  }

  -- ---- refusals

  refused_shut : (n : Option ℕ) (zxid : ℕ) (cause : Cause) (c : Connection) (q : List Waiting) → (refused n zxid cause c q).connection.queue ≡ []
  unfolding refused
  refused_shut n zxid cause c [] = refl
  refused_shut n zxid cause c (w ∷ q) = let p = reply_packet w.request.xid zxid (sent.Err (code_of cause)) in choose (λ (r : Settled). r.connection.queue ≡ []) (is_out n) (settled_so (closed true c) []) (telling (told_by c.phase zxid w.request (sent.Err (code_of cause)) cause) (refused (less n) zxid cause (put p c) q)) refl (refused_shut (less n) zxid cause (put p c) q)

  pub refuses : (k : ℕ) (b : Bool) (n : Option ℕ) (zxid : ℕ) (cause : Cause) (c : Connection) → is_over c.phase ≡ false → (b ≡ true → Ends k) → Closing k c (refused_if b n zxid cause c).told (refused_if b n zxid cause c).connection
  refuses k true n zxid cause c o f = ends_for k c (refused n zxid cause c c.queue).connection (refused n zxid cause c c.queue).told o (refused_shut n zxid cause c c.queue) (inr (inr (f refl)))
  refuses k false n zxid cause c o f = still k c

  abbrev pub RowCloses : ℕ → Connection → Settled → Type 0
  RowCloses k c r = Closing k c r.told r.connection

  same_row : (k : ℕ) (c : Connection) (r : Settled) → r ≡ stays c → RowCloses k c r
  same_row k c r e = subst (RowCloses k c) (sym e) (still k c)

  hear_row : (k : ℕ) (c : Connection) (r : Settled) → is_over c.phase ≡ false → r.told ≡ [] → IsHeard c r.connection → RowCloses k c r
  hear_row k c r o t (inl h) s = (λ e. no (is_over c.phase) o (sym (ap is_over h.1) ∙ e), λ e. h.1, λ e f. no (is_over c.phase) o (sym (ap is_over h.1) ∙ f))
  hear_row k c r o t (inr h) s = (λ e. h.1, λ e. no (is_over c.phase) o e, λ e f. inl h.2)

  over_hears : (ch : Choices) (pairs : List (ℕ × Event)) (k : ℕ) (c : Connection) → is_over c.phase ≡ true → hears ch pairs k c ≡ stays c
  over_hears ch pairs k c e = pick (λ z. z ≡ stays c) (is_over c.phase) _ _ (λ b. refl) (λ b. no (is_over c.phase) b e)

  pub hears_close : (ch : Choices) (pairs : List (ℕ × Event)) (k : ℕ) (c : Connection) → RowCloses k c (hears ch pairs k c)
  hears_close ch pairs k c = by_over (is_over c.phase) refl where
    by_over : (b : Bool) → is_over c.phase ≡ b → RowCloses k c (hears ch pairs k c)
    by_over true e = same_row k c (hears ch pairs k c) (over_hears ch pairs k c e)
    by_over false e = let h = hears_it ch pairs k c in hear_row k c (hears ch pairs k c) e h.0 h.1

-- ---- the meaning of an entry

its_session : (s : ℕ) (b : Bool) (p : Phase) → (is_of s p && b) ≡ true → ((served_by p == s) && b) ≡ true
its_session s b phase.Fresh h = no false refl h
its_session s b (phase.Connecting ro) h = no false refl h
its_session s b (phase.Live t e n) h = h
its_session s b (phase.Closing lost) h = no false refl h

its_end : (s : ℕ) (stale : Bool) (p : Phase) → stale ≡ false → is_of s p ≡ true → (not stale && (served_by p == s)) ≡ true
its_end s true p e h = no true e refl
its_end s false phase.Fresh e h = no false refl h
its_end s false (phase.Connecting ro) e h = no false refl h
its_end s false (phase.Live t f n) e h = h
its_end s false (phase.Closing lost) e h = no false refl h

reply_phase : (seq : ℕ) (r : Reply) (c : Connection) (o : Option Waiting) → (replied_in seq r c o).phase ≡ c.phase
reply_phase seq r c None = refl
reply_phase seq r c (Some w) = refl

module _ (x : Node) (en : LogEntry) where
  abbrev pub EndsE : ℕ → Type 0
  EndsE k = EndsByEntry x (Some en) k (map.get x.seats k)

  module _ (ch : Choices) (k : ℕ) (s : Seat) (there : map.get x.seats k ≡ Some s) where
    abbrev Out_ : Outcome
    Out_ = apply x.state en

    abbrev Mine_ : Origin
    Mine_ = record { node = x.me; boot = x.boot; conn = k }

    abbrev RowE : Connection → Settled → Type 0
    RowE c r = RowCloses EndsE k c r

    phase_is : (c : Connection) → c.phase ≡ s.connection.phase → served_by c.phase ≡ served_by (phase_at (map.get x.seats k))
    phase_is c e = ap served_by (e ∙ ap phase_at (sym there))

    attach_closes : (o : Origin) (session : ℕ) (passwd : List ℕ) → en.body ≡ body.Attach session passwd o → (r : Reply) → Out_.reply ≡ r → (c : Connection) → is_over c.phase ≡ false → c.phase ≡ s.connection.phase → RowE c (attached_to ch Out_.state.applied Mine_ o session r k c)
    attach_closes o session passwd same (reply.Epoch epoch) er c open_ e = refuses EndsE k (is_of session c.phase && not (same_origin o Mine_)) (ch.luck k).answers Out_.state.applied by_move c open_
        (λ b. inl (subst (λ z. takes_away Mine_ (served_by (phase_at (map.get x.seats k))) z Out_.reply ≡ true) (sym same) (subst (λ z. takes_away Mine_ (served_by (phase_at (map.get x.seats k))) (body.Attach session passwd o) z ≡ true) (sym er)
        (subst (λ z. ((z == session) && not (same_origin o Mine_)) ≡ true) (phase_is c e) (its_session session (not (same_origin o Mine_)) c.phase b)))))
    attach_closes o session passwd same reply.Stale er c open_ e = still EndsE k c
    attach_closes o session passwd same (reply.Err code) er c open_ e = still EndsE k c
    attach_closes o session passwd same reply.Done er c open_ e = still EndsE k c
    attach_closes o session passwd same (reply.Session id) er c open_ e = still EndsE k c
    attach_closes o session passwd same (reply.Path path) er c open_ e = still EndsE k c
    attach_closes o session passwd same (reply.PathStat path m) er c open_ e = still EndsE k c
    attach_closes o session passwd same (reply.Stat m) er c open_ e = still EndsE k c
    attach_closes o session passwd same (reply.Multi rs) er c open_ e = still EndsE k c
    attach_closes o session passwd same (reply.Failed codes) er c open_ e = still EndsE k c

    applied_closes : (b : Body) → en.body ≡ b → is_stale Out_.reply ≡ false → (c : Connection) → is_over c.phase ≡ false → c.phase ≡ s.connection.phase → RowE c (applied_to ch x.me x.boot Out_.state.applied b Out_.reply k c)
    applied_closes body.Noop same fresh c open_ e = still EndsE k c
    applied_closes (body.OpenSession timeout passwd o) same fresh c open_ e = still EndsE k c
    applied_closes (body.Attach session passwd o) same fresh c open_ e = attach_closes o session passwd same Out_.reply refl c open_ e
    applied_closes (body.Expire session) same fresh c open_ e = refuses EndsE k (is_of session c.phase) (ch.luck k).answers Out_.state.applied by_end c open_
        (λ b. inr (inl (subst (λ z. expires (served_by (phase_at (map.get x.seats k))) z Out_.reply ≡ true) (sym same)
        (subst (λ z. (not (is_stale Out_.reply) && (z == session)) ≡ true) (phase_is c e) (its_end session (is_stale Out_.reply) c.phase fresh b)))))
    applied_closes (body.Write session epoch seq q) same fresh c open_ e = choose (RowE c) (is_in session epoch c.phase) _ _
        (open_still EndsE k c (replied_to seq Out_.reply c) open_ (ap is_over (reply_phase seq Out_.reply c (awaited seq c.queue)) ∙ open_)) (still EndsE k c)

    meaning_closes : (c : Connection) → is_over c.phase ≡ false → c.phase ≡ s.connection.phase → RowE c (meaning ch x.me x.boot Out_.state.applied en.body Out_.reply k c)
    unfolding meaning
    meaning_closes c open_ e = pick (RowE c) (is_stale Out_.reply) (stays c) (applied_to ch x.me x.boot Out_.state.applied en.body Out_.reply k c) (λ b. still EndsE k c) (λ b. applied_closes en.body refl b c open_ e)

    abbrev Hear_ : Settled
    Hear_ = hears ch (fired x.watches Out_.events).pairs k s.connection

    abbrev Learn_ : Settled
    Learn_ = meaning ch x.me x.boot Out_.state.applied en.body Out_.reply k Hear_.connection

    learn_row : RowE Hear_.connection Learn_
    learn_row = by_heard (is_over Hear_.connection.phase) refl (hears_it ch (fired x.watches Out_.events).pairs k s.connection).1 where
      by_heard : (o : Bool) → is_over Hear_.connection.phase ≡ o → IsHeard s.connection Hear_.connection → RowE Hear_.connection Learn_
      by_heard true o h = same_row EndsE k Hear_.connection Learn_ (over_means ch x.me x.boot Out_.state.applied en.body Out_.reply k Hear_.connection o)
      by_heard false o (inl h) = meaning_closes Hear_.connection o h.1
      by_heard false o (inr h) = no (is_over Hear_.connection.phase) o h.0

    pub learns_close : Closing EndsE k s.connection (Hear_.told ++ Learn_.told) Learn_.connection
    learns_close = behind EndsE k s.connection Hear_.connection Learn_.connection Hear_.told Learn_.told (hears_close EndsE ch (fired x.watches Out_.events).pairs k s.connection) learn_row

-- ---- a risen term, an image

risen_close : (Ends : ℕ → Type 0) (ch : Choices) (zxid k j : ℕ) (c : Connection) (p : Phase) → c.phase ≡ p → Ends k → RowCloses Ends k c (risen_as ch zxid j c p k c)
risen_close Ends ch zxid k j c phase.Fresh e u = still Ends k c
risen_close Ends ch zxid k j c (phase.Connecting ro) e u = ends_for Ends k c (closed false c) [] (ap is_over e) refl (inr (inr u))
risen_close Ends ch zxid k j c (phase.Live s f n) e u = refuses Ends k (nat_lt 0 (length c.queue)) (ch.luck k).answers zxid by_term c (ap is_over e) (λ b. u)
risen_close Ends ch zxid k j c (phase.Closing lost) e u = still Ends k c

ended_close : (Ends : ℕ → Type 0) (k : ℕ) (c : Connection) → Ends k → RowCloses Ends k c (ended k c)
ended_close Ends k c u = pick (RowCloses Ends k c) (is_over c.phase) (stays c) (stays (closed false c)) (λ o. still Ends k c) (λ o. ends_for Ends k c (closed false c) [] o refl (inr (inr u)))

-- ---- at every event

-- the cause of an end at a place, behind a turn
abbrev Caused : (ℕ → Type 0) → Bool → ℕ → Option Seat → List Told → Option Seat → Type 0
Caused Ends gone k None ts n = Unit {0}
Caused Ends gone k (Some a) ts None = is_over a.connection.phase ≡ false → gone ≡ true
Caused Ends gone k (Some a) ts (Some b) = is_over a.connection.phase ≡ false → is_over b.connection.phase ≡ true → Why Ends k b.connection ts

place_caused : (Ends : ℕ → Type 0) (k : ℕ) (o n : Option Seat) (ts : List Told) → ((s : Seat) → o ≡ Some s → Shuts s.connection) → At (Closing Ends) k o ts n → Caused Ends false k o ts n
place_caused Ends k None n ts f h = tt
place_caused Ends k (Some a) None ts f h = absurd h
place_caused Ends k (Some a) (Some b) ts f h = (h (f a refl)).2

stay_caused : (Ends : ℕ → Type 0) (gone : Bool) (k : ℕ) (o : Option Seat) (ts : List Told) → Caused Ends gone k o ts o
stay_caused Ends gone k None ts = tt
stay_caused Ends gone k (Some a) ts = λ o h. no (is_over a.connection.phase) o h

-- one that comes isn't over; one that goes by a hangup is gone by it
new_caused : (Ends : ℕ → Type 0) (k : ℕ) (b : Bool) (o : Option Seat) (draw : List ℕ) (ts : List Told) → Caused Ends false k o ts (cond b (Some (record { draw = draw; connection = blank })) o)
new_caused Ends k true None draw ts = tt
new_caused Ends k true (Some a) draw ts = λ o h. no false refl h
new_caused Ends k false o draw ts = stay_caused Ends false k o ts

gone_caused : (Ends : ℕ → Type 0) (k : ℕ) (b : Bool) (o : Option Seat) (ts : List Told) → Caused Ends b k o ts (cond b None o)
gone_caused Ends k true None ts = tt
gone_caused Ends k true (Some a) ts = λ o. refl
gone_caused Ends k false o ts = stay_caused Ends false k o ts

over_gone : (Ends : ℕ → Type 0) (k : ℕ) (b : Bool) (o : Option Seat) (s : Seat) (ts : List Told) → (b ≡ true → o ≡ Some s) → is_over s.connection.phase ≡ true → Caused Ends false k o ts (cond b None o)
over_gone Ends k true None s ts f h = tt
over_gone Ends k true (Some a) s ts f h = λ o. no (is_over a.connection.phase) o (same_over (f refl) ∙ h) where
  over_at : Option Seat → Bool
  over_at None = false
  over_at (Some z) = is_over z.connection.phase

  same_over : Some a ≡ Some s → is_over a.connection.phase ≡ is_over s.connection.phase
  same_over e = ap over_at e
over_gone Ends k false o s ts f h = stay_caused Ends false k o ts

set_caused : (Ends : ℕ → Type 0) (k : ℕ) (b : Bool) (o : Option Seat) (s : Seat) (ts : List Told) → is_over s.connection.phase ≡ false → Caused Ends false k o ts (cond b (Some (seated s (drained s.connection))) o)
set_caused Ends k true None s ts f = tt
set_caused Ends k true (Some a) s ts f = λ o h. no (is_over s.connection.phase) f h
set_caused Ends k false o s ts f = stay_caused Ends false k o ts

module _ (I : Type 0) (x : Node) (shut : AllShutIsEmpty x) where
  -- the causes that an event may have
  abbrev pub EndsV : ℕ → Bool → Bool → NodeEventKind (Mail I) → ℕ → Type 0
  EndsV now up image v k = EndsBy x now up image k (map.get x.seats k) v

  abbrev TurnCaused : ℕ → Bool → Bool → NodeEventKind (Mail I) → Turn → Type 0
  TurnCaused now up image v t = (k : ℕ) → Caused (EndsV now up image v) (hangs_up v k) k (map.get x.seats k) (t.told k) (map.get t.node.seats k)

  drain_caused : (now : ℕ) (up image : Bool) (j : ℕ) (o : Option Seat) → map.get x.seats j ≡ o → TurnCaused now up image (kind.Drain j) (drain_turn x j o)
  drain_caused now up image j None there k = stay_caused (EndsV now up image (kind.Drain j)) false k (map.get x.seats k) []
  drain_caused now up image j (Some s) there k = let E = EndsV now up image (kind.Drain j) in pick (λ m. Caused E false k (map.get x.seats k) [] (map.get m k)) (is_over s.connection.phase) (map.remove x.seats j) (map.insert x.seats j (seated s (drained s.connection)))
      (λ b. subst (Caused E false k (map.get x.seats k) []) (sym (map.get-remove nat_cmp_total x.seats j k)) (over_gone E k (eq_by_cmp nat_cmp k j) (map.get x.seats k) s [] (λ e. ap (map.get x.seats) (tied k j e) ∙ there) b))
      (λ b. subst (Caused E false k (map.get x.seats k) []) (sym (get-insert x.seats j (seated s (drained s.connection)) k)) (set_caused E k (eq_by_cmp nat_cmp k j) (map.get x.seats k) s [] b))

  free : (g : _) (k next : ℕ) (j : Joined) → Allowed (λ k. Unit {0}) (λ k q. Unit {0}) g k next j
  free g k next j = record { none = λ e. tt; full = λ b r. tt; far = λ e. tt; came = λ q a. tt }

  client_caused : (words : Words) (ch : Choices) (now j : ℕ) (bytes : List ℕ) (up image : Bool) → TurnCaused now up image (kind.Client j bytes) (client_turn words ch x now j bytes (map.get x.seats j))
  client_caused words ch now j bytes up image k = let E : ℕ → Type 0 = λ i. EndsByBytes x now (fed_at (map.get x.seats i) bytes) in
      place_caused E k (map.get x.seats k) _ _ (shut k)
      (client_goes (Closing E) (λ k. Unit {0}) E (λ k q. Unit {0}) (λ w. Unit {0}) (acts E) words ch x now j bytes
      (λ s there o. let f = ap (λ z. fed_at z bytes) there in (
        record {
          bad = λ at e. inl (at, ap (λ z. z.end) f ∙ e);
          word = λ w e. inr (inl (w, ap (λ z. z.end) f ∙ e));
          told = λ w. tt;
          refused = λ q e b. inr (inr (q, ap (λ z. z.connect) f ∙ e, inl b));
          unled = λ q e b. inr (inr (q, ap (λ z. z.connect) f ∙ e, inr b));
        },
        λ l. free _ j _ _,
      )) k)

  commit_caused : (ch : Choices) (now : ℕ) (o : Option LogEntry) (k : ℕ) → Caused (λ i. EndsByEntry x o i (map.get x.seats i)) false k (map.get x.seats k) ((commit_turn ch x now o).told k) (map.get (commit_turn ch x now o).node.seats k)
  commit_caused ch now None k = stay_caused (λ i. EndsByEntry x None i (map.get x.seats i)) false k (map.get x.seats k) []
  commit_caused ch now (Some e) k = place_caused (EndsE x e) k (map.get x.seats k) _ _ (shut k)
      (commit_goes (Closing (EndsE x e)) (λ k. Unit {0}) (EndsE x e) (λ k q. Unit {0}) (λ w. Unit {0}) (acts (EndsE x e)) ch x now e
      (λ i s there. learns_close x e ch i s there)
      (λ i y ro there p n. let w = heard.newcomer_waited ch x now e i y there (ap is_waiting p) in record {
        refused = λ z. inr (inr (w.0, n, inl (inl z)));
        zero = λ z. inr (inr (w.0, n, inl (inr z)));
        opened_ = λ z s q c same. (free _ i _ _, λ at f. inr (inr (w.0, n, inr (c, ap (λ (u : Connection). u.kept) same ∙ w.1, at, f))));
      }) k)

  raft_caused : (ch : Choices) (now : ℕ) (o : raft.Outcome I) (image : Option I) (E : ℕ → Type 0) → ((k : ℕ) → rose x o ≡ true → E k) → ((k : ℕ) → is_some image ≡ true → E k) → (k : ℕ) → Caused E false k (map.get x.seats k) ((raft_table ch x o image).told k) (map.get (raft_table ch x o image).seats k)
  raft_caused ch now o image E f g k = place_caused E k (map.get x.seats k) _ _ (shut k)
      (raft_goes (Closing E) (λ k. Unit {0}) E (λ k q. Unit {0}) (λ w. Unit {0}) (acts E) ch x o image (λ b i c. risen_close E ch x.state.applied i i c c.phase refl (f i b)) (λ b i c. ended_close E i c (g i b)) k)

  turn_caused : (words : Words) (im : Images I) (ch : Choices) (now : ℕ) (o : raft.Outcome I) (image : Option I) (v : NodeEventKind (Mail I)) → TurnCaused now (rose x o) (is_some image) v (turned words im ch x now o image v)
  unfolding turned
  turn_caused words im ch now o image (kind.Accept draw) k = let E = EndsV now (rose x o) (is_some image) (kind.Accept draw) in subst (Caused E false k (map.get x.seats k) []) (sym (get-insert x.seats x.next (record { draw = draw; connection = blank }) k)) (new_caused E k (eq_by_cmp nat_cmp k x.next) (map.get x.seats k) draw [])
  turn_caused words im ch now o image (kind.Client j bytes) k = client_caused words ch now j bytes (rose x o) (is_some image) k
  turn_caused words im ch now o image (kind.Hangup j) k = let E = EndsV now (rose x o) (is_some image) (kind.Hangup j) in subst (Caused E (eq_by_cmp nat_cmp k j) k (map.get x.seats k) []) (sym (map.get-remove nat_cmp_total x.seats j k)) (gone_caused E k (eq_by_cmp nat_cmp k j) (map.get x.seats k) [])
  turn_caused words im ch now o image (kind.Drain j) k = drain_caused now (rose x o) (is_some image) j (map.get x.seats j) refl k
  turn_caused words im ch now o image (kind.Deliver m) k = raft_caused ch now o image (EndsV now (rose x o) (is_some image) (kind.Deliver m)) (λ i b. inl b) (λ i b. inr b) k
  turn_caused words im ch now o image kind.Timeout k = raft_caused ch now o image (EndsV now (rose x o) (is_some image) kind.Timeout) (λ i b. inl b) (λ i b. inr b) k
  turn_caused words im ch now o image kind.Beat k = stay_caused (EndsV now (rose x o) (is_some image) kind.Beat) false k (map.get x.seats k) []
  turn_caused words im ch now o image kind.CommitOne k = commit_caused ch now (upcoming x) k
  turn_caused words im ch now o image kind.ExpireDue k = stay_caused (EndsV now (rose x o) (is_some image) kind.ExpireDue) false k (map.get x.seats k) []
  turn_caused words im ch now o image kind.Snapshot k = stay_caused (EndsV now (rose x o) (is_some image) kind.Snapshot) false k (map.get x.seats k) []

-- of the step
as_caused : {I : Type 0} (x : Node) (v : NodeEvent (Mail I)) (up image : Bool) (told : List Told) (k : ℕ) (o n : Option Seat) → map.get x.seats k ≡ o → Caused (λ i. EndsBy x v.now up image i (map.get x.seats i) v.kind) (hangs_up v.kind k) k o told n → EndAt x v.now up image (hangs_up v.kind k) told k v.kind o n
as_caused x v up image told k None n there h = tt
as_caused x v up image told k (Some a) None there h = h
as_caused x v up image told k (Some a) (Some b) there h = λ o f. with_seat (h o f) where
  with_seat : Why (λ i. EndsBy x v.now up image i (map.get x.seats i) v.kind) k b.connection told → (is_lost b.connection.phase ≡ true) ⊎ ((has_end told ≡ true) ⊎ EndsBy x v.now up image k (Some a) v.kind)
  with_seat (inl l) = inl l
  with_seat (inr (inl l)) = inr (inl l)
  with_seat (inr (inr l)) = inr (inr (subst (λ z. EndsBy x v.now up image k z v.kind) there l))

pub ends_are_caused : (I : Type 0) → EndsAreCaused I
unfolding step together
ends_are_caused I words im ch x v shut k = let input = asked words im ch x v.now v.kind in let o = reacted x input in let image = installed x input in let t = turned words im ch x v.now o image v.kind in
    as_caused x v (rose x o) (is_some image) (t.told k) k (map.get x.seats k) (map.get t.node.seats k) refl (turn_caused I x shut words im ch v.now o image v.kind k)
