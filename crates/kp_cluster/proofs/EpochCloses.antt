-- A close that its connection awaits ends the connection.
use Rattle.std.proofs.Common.{◌≡◌, ℕ, Bool, true, false, cond, ◌&&◌, ◌⊎◌, inl, inr, List, [], ◌∷◌, Option, Some, None, is_some, refl, ap, sym, subst, ◌∙◌}
use Rattle.std.proofs.lemmas.Bool.{eq-eqb}
use Rattle.std.specs.Prelude.{if◌then◌else◌, not, slice_set}
use Rattle.std.specs.Option.{option_map}
use Rattle.std.specs.Ordering.{nat_cmp, eq_by_cmp}
use Rattle.std.specs.FinMap as map
use Rattle.kp_model.specs.declared.command.Cmd.TheVariants as cmd
use Rattle.kp_model.specs.declared.entry.Body.{Body}
use Rattle.kp_model.specs.declared.entry.Body.TheVariants as body
use Rattle.kp_model.specs.declared.reply.Event.{Event}
use Rattle.kp_model.specs.declared.reply.Reply.{Reply}
use Rattle.kp_model.specs.LogEntry.{LogEntry}
use Rattle.kp_model.specs.State.{State}
use Rattle.kp_model.specs.Step.{apply}
use Rattle.kp_model.specs.Taken.{is_stale}
use Rattle.kp_model.proofs.Maps.{same_value, no_value}
use Rattle.kp_ask.specs.Answers.{answer_to}
use Rattle.kp_raft.specs.declared.mail.Mail.{Mail}
use Rattle.kp_raft.specs.Parts as raft
use Rattle.kp_event.specs.declared.event.NodeEventKind.{NodeEventKind}
use Rattle.kp_event.specs.declared.event.NodeEventKind.TheVariants as kind
use Rattle.kp_wire.specs.declared.reply.WireReply.{WireReply}
use Rattle.kp_watch.specs.declared.watch.Watch.{Watch}
use Rattle.kp_watch.specs.Watching.{fired}
use Rattle.kp_conn.specs.declared.phase.Phase.{Phase}
use Rattle.kp_conn.specs.declared.phase.Phase.TheVariants as phase
use Rattle.kp_conn.specs.declared.waiting.Mark.{Mark}
use Rattle.kp_conn.specs.declared.waiting.Waiting.{Waiting}
use Rattle.kp_conn.specs.Connection.{Connection, closed, put, is_over}
use Rattle.kp_conn.specs.Queue.{awaited, is_close, place_of, replied, settled_at, settled_queue}
use Rattle.kp_step.specs.declared.seat.Seat.{Seat}
use Rattle.kp_step.specs.Choices.{Choices, is_out, less}
use Rattle.kp_step.specs.Node.{Node, Seats, Images}
use Rattle.kp_step.specs.Answers.{Answer, answer_of, answer_by}
use Rattle.kp_step.specs.Settling.{Told, Settled, settled, settled_so, telling, told_by, put_answer, with_queue, is_end, is_at_rest, session_in, stays, given_out}
use Rattle.kp_step.specs.Handing.{Ground, Desk, ground, desk}
use Rattle.kp_step.specs.Tables.{Table, row_at, with_row, seated, settled_in, settled_one, settled_all}
use Rattle.kp_step.specs.Applying.{upcoming}
use Rattle.kp_step.specs.Committing.{hears, packets_for, is_in, replied_in, replied_to, applied_to, meaning, session_of, greeted_in, greeted_at, greeted_by, greeted, informed, committed}
use Rattle.kp_step.specs.Asking.{Words, reacted, installed, asked}
use Rattle.kp_step.specs.Step.{commit_turn, turned, applies, together, step}
use Rattle.kp_step.specs.Runs.{IsResting}
use Rattle.kp_step.proofs.Tables.{no, tied, get-insert, get-mapped}
use Rattle.kp_step.proofs.Moving.{is_live}
use Rattle.kp_step.proofs.Settles.{by_answer}
use Rattle.kp_step.proofs.Serves.{choose}
use Rattle.kp_step.proofs.Resting.{committed_quiet}
use Rattle.kp_cluster.proofs.EpochSteps.{replied_phase}
use Rattle.kp_cluster.specs.Serving.{IsClose, Awaits, ClosesEndConnections}

-- all that waits is a close that was answered
record IsLast (c : Connection) : Type 0 where
  front : Waiting
  queue : c.queue ≡ front ∷ []
  close : is_close front.request.ask ≡ true
  told : is_some front.reply ≡ true
  live : is_live c.phase ≡ true

-- the connection is over, or is so once it is settled
abbrev Ends : Connection → Type 0
Ends c = (is_over c.phase ≡ true) ⊎ IsLast c

abbrev SeatEnds : Option Seat → Type 0
SeatEnds None = Unit {0}
SeatEnds (Some s) = Ends s.connection

-- ---- settling

abbrev IsOver : Settled → Type 0
IsOver r = is_over r.connection.phase ≡ true

over_end : (b : Bool) (t : Told) (x y : Settled) → IsOver x → IsOver y → IsOver (telling t (if b then x else y))
over_end true t x y p q = p
over_end false t x y p q = q

last_end : (b : Bool) (t : Told) (x y : Settled) → b ≡ true → IsOver x → IsOver (telling t (if b then x else y))
last_end true t x y e p = p
last_end false t x y e p = no false refl e

answered_some : (ws : List Watch) (r : Option WireReply) (m : Option Mark) (read : Answer) → is_some r ≡ true → answer_by ws r m read ≡ None → ⊥
answered_some ws None m read h e = no false refl h
answered_some ws (Some r) m read h e = no false refl (sym (ap is_some e))

is_end_true : (w : Waiting) → is_close w.request.ask ≡ true → is_some w.reply ≡ true → is_end w ≡ true
is_end_true w e f = λ i. (e i && f i)

module _ (s : State) (k : ℕ) where
  over_settled : (n : Option ℕ) (ws : List Watch) (c : Connection) (q : List Waiting) → is_over c.phase ≡ true → IsOver (settled s k n ws c q)
  unfolding settled
  over_settled n ws c [] h = h
  over_settled n ws c (w ∷ q) h = by_answer IsOver (answer_of s (session_in c.phase) k ws w) (is_out n) (settled_so (with_queue (w ∷ q) c) ws) (settled_so (closed true c) ws) _ (λ e. h) refl
      (λ a e. over_end (is_end w) (told_by c.phase s.applied w.request a.reply a.cause) (settled_so (closed false (put_answer s.applied w.request a c)) a.watches) _ refl (over_settled (less n) a.watches (put_answer s.applied w.request a c) q h))

  last_settled : (n : Option ℕ) (ws : List Watch) (c : Connection) (w : Waiting) → is_close w.request.ask ≡ true → is_some w.reply ≡ true → IsOver (settled s k n ws c (w ∷ []))
  unfolding settled answer_of
  last_settled n ws c w close told = by_answer IsOver _ (is_out n) (settled_so (with_queue (w ∷ []) c) ws) (settled_so (closed true c) ws) _
      (λ e. absurd (answered_some ws w.reply w.mark _ told e)) refl
      (λ a e. last_end (is_end w) (told_by c.phase s.applied w.request a.reply a.cause) (settled_so (closed false (put_answer s.applied w.request a c)) a.watches) _ (is_end_true w close told) refl)

  settled_ends : (n : Option ℕ) (ws : List Watch) (c : Connection) → Ends c → Ends (settled s k n ws c c.queue).connection
  settled_ends n ws c (inl h) = inl (over_settled n ws c c.queue h)
  settled_ends n ws c (inr l) = inl (subst (λ q. IsOver (settled s k n ws c q)) (sym l.queue) (last_settled n ws c l.front l.close l.told))

-- ---- the table

insert_ends : (b : Bool) (s : Seat) (o : Option Seat) → (b ≡ true → Ends s.connection) → SeatEnds o → SeatEnds (cond b (Some s) o)
insert_ends true s o f h = f refl
insert_ends false s o f h = h

inserted_ends : (m : Seats) (k j : ℕ) (s : Seat) → (k ≡ j → Ends s.connection) → SeatEnds (map.get m k) → SeatEnds (map.get (map.insert m j s) k)
inserted_ends m k j s f h = subst SeatEnds (sym (get-insert m j s k)) (insert_ends (eq_by_cmp nat_cmp k j) s (map.get m k) (λ e. f (tied k j e)) h)

module _ (ch : Choices) (s : State) (k : ℕ) where
  in_ends : (t : Table) (j : ℕ) (o : Option Seat) → map.get t.seats j ≡ o → SeatEnds (map.get t.seats k) → SeatEnds (map.get (settled_in ch s t j o).seats k)
  in_ends t j None there h = h
  in_ends t j (Some x) there h = let r = settled s j (ch.luck j).answers t.watches x.connection x.connection.queue in
      inserted_ends t.seats k j (seated x r.connection) (λ e. settled_ends s j (ch.luck j).answers t.watches x.connection (subst SeatEnds (ap (map.get t.seats) e ∙ there) h)) h

  all_ends : (t : Table) (js : List ℕ) → SeatEnds (map.get t.seats k) → SeatEnds (map.get (settled_all ch s t js).seats k)
  unfolding settled_all settled_one
  all_ends t [] h = h
  all_ends t (j ∷ js) h = all_ends (settled_one ch s t j) js (in_ends t j (map.get t.seats j) refl h)

-- one that waits for the reply to its connect request doesn't end
not_connecting : (x : Seat) (ro : Bool) → x.connection.phase ≡ phase.Connecting ro → Ends x.connection → ⊥
not_connecting x ro e (inl h) = no (is_over x.connection.phase) (ap is_over e) h
not_connecting x ro e (inr l) = no (is_live x.connection.phase) (ap is_live e) l.live

module _ (ch : Choices) (g : Ground) (d : Desk) (id : Option ℕ) (k : ℕ) where
  greet_in_ends : (t : Table) (j : ℕ) (x : Seat) (p : Phase) → x.connection.phase ≡ p → map.get t.seats j ≡ Some x → SeatEnds (map.get t.seats k) → SeatEnds (map.get (greeted_in ch g d t id j x p).table.seats k)
  greet_in_ends t j x phase.Fresh e there h = h
  greet_in_ends t j x (phase.Connecting ro) e there h = inserted_ends t.seats k j _ (λ same. absurd (not_connecting x ro e (subst SeatEnds (ap (map.get t.seats) same ∙ there) h))) h
  greet_in_ends t j x (phase.Live s f n) e there h = h
  greet_in_ends t j x (phase.Closing lost) e there h = h

  greet_at_ends : (t : Table) (j : ℕ) (o : Option Seat) → map.get t.seats j ≡ o → SeatEnds (map.get t.seats k) → SeatEnds (map.get (greeted_at ch g d t id j o).table.seats k)
  greet_at_ends t j None there h = h
  greet_at_ends t j (Some x) there h = greet_in_ends t j x x.connection.phase refl there h

  greet_ends : (t : Table) (o : Option ℕ) → SeatEnds (map.get t.seats k) → SeatEnds (map.get (greeted_by ch g d t id o).table.seats k)
  greet_ends t None h = h
  greet_ends t (Some j) h = greet_at_ends t j (map.get t.seats j) refl h

-- ---- the meaning of the close

-- events leave the queue and the phase, or end the connection
record IsHeard (c b : Connection) : Type 0 where
  phase : b.phase ≡ c.phase
  queue : b.queue ≡ c.queue

given_heard : (n : Option ℕ) (ps : List (List ℕ)) (c : Connection) → (is_over (given_out n ps c).phase ≡ true) ⊎ IsHeard c (given_out n ps c)
unfolding given_out
given_heard n [] c = inr (record { phase = refl; queue = refl })
given_heard n (p ∷ ps) c = choose (λ b. (is_over b.phase ≡ true) ⊎ IsHeard c b) (is_out n) (closed true c) (given_out (less n) ps (put p c)) (inl refl) (by (given_heard (less n) ps (put p c))) where
  by : {b : Connection} → (is_over b.phase ≡ true) ⊎ IsHeard (put p c) b → (is_over b.phase ≡ true) ⊎ IsHeard c b
  by (inl h) = inl h
  by (inr h) = inr (record { phase = h.phase; queue = h.queue })

heard_by : (ch : Choices) (pairs : List (ℕ × Event)) (k : ℕ) (c : Connection) → (is_over (hears ch pairs k c).connection.phase ≡ true) ⊎ IsHeard c (hears ch pairs k c).connection
heard_by ch pairs k c = choose (λ (r : Settled). (is_over r.connection.phase ≡ true) ⊎ IsHeard c r.connection) (is_over c.phase) (stays c) (stays (given_out (ch.luck k).events (packets_for k pairs) c))
    (inr (record { phase = refl; queue = refl })) (given_heard (ch.luck k).events (packets_for k pairs) c)

closed_queue : (seq : ℕ) (r : WireReply) (q : List Waiting) (w : Waiting) → awaited seq q ≡ Some w → is_close w.request.ask ≡ true → settled_queue seq r q ≡ replied r w ∷ []
closed_queue seq r q w there close = ap (settled_at (place_of seq q) r q) there ∙ ap (λ b. cond b (replied r w ∷ []) (slice_set q (place_of seq q) (replied r w))) close

live_of : (c : Connection) (id epoch n : ℕ) → c.phase ≡ phase.Live id epoch n → is_live c.phase ≡ true
live_of c id epoch n e = ap is_live e

reply_ends : (seq id epoch n : ℕ) (r : Reply) (c : Connection) (w : Waiting) → c.phase ≡ phase.Live id epoch n → awaited seq c.queue ≡ Some w → is_close w.request.ask ≡ true → Ends (replied_to seq r c)
reply_ends seq id epoch n r c w p there close = subst (λ o. Ends (replied_in seq r c o)) (sym there) (inr (record {
  front = replied (answer_to w.request.ask r) w;
  queue = closed_queue seq (answer_to w.request.ask r) c.queue w there close;
  close = close;
  told = refl;
  live = live_of c id epoch n p;
}))

in_true : (id epoch n : ℕ) (p : Phase) → p ≡ phase.Live id epoch n → is_in id epoch p ≡ true
in_true id epoch n p e = ap (is_in id epoch) e ∙ (λ i. eq-eqb id id refl i && eq-eqb epoch epoch refl i)

picked : (b : Bool) (x y : Settled) → b ≡ true → Ends x.connection → Ends (if b then x else y).connection
picked true x y e h = h
picked false x y e h = no false refl e

other : (b : Bool) (x y : Settled) → b ≡ false → Ends y.connection → Ends (if b then x else y).connection
other true x y e h = no true e refl
other false x y e h = h

module _ (ch : Choices) (me boot zxid k : ℕ) (r : Reply) (timely : is_stale r ≡ false) where
  close_ends : (id epoch seq n : ℕ) (b : Body) → b ≡ body.Write id epoch seq cmd.CloseSession → (c : Connection) (w : Waiting) → c.phase ≡ phase.Live id epoch n → awaited seq c.queue ≡ Some w → is_close w.request.ask ≡ true → Ends (meaning ch me boot zxid b r k c).connection
  unfolding meaning
  close_ends id epoch seq n b e c w p there close = subst (λ z. Ends (if is_stale r then stays c else applied_to ch me boot zxid z r k c).connection) (sym e)
      (other (is_stale r) (stays c) (applied_to ch me boot zxid (body.Write id epoch seq cmd.CloseSession) r k c) timely
      (picked (is_in id epoch c.phase) (stays (replied_to seq r c)) (stays c) (in_true id epoch n c.phase p) (reply_ends seq id epoch n r c w p there close)))

  -- one that is over stays so
  over_row : (b : Body) (id epoch seq : ℕ) → b ≡ body.Write id epoch seq cmd.CloseSession → (c : Connection) → is_over c.phase ≡ true → Ends (meaning ch me boot zxid b r k c).connection
  unfolding meaning
  over_row b id epoch seq e c h = subst (λ z. Ends (if is_stale r then stays c else applied_to ch me boot zxid z r k c).connection) (sym e)
      (other (is_stale r) (stays c) (applied_to ch me boot zxid (body.Write id epoch seq cmd.CloseSession) r k c) timely
      (choose (λ (y : Settled). Ends y.connection) (is_in id epoch c.phase) (stays (replied_to seq r c)) (stays c) (inl (ap is_over (replied_phase seq r c) ∙ h)) (inl h)))

  both_rows : (b : Body) (id epoch seq : ℕ) → b ≡ body.Write id epoch seq cmd.CloseSession → (c d : Connection) → Awaits c id epoch seq → (is_over d.phase ≡ true) ⊎ IsHeard c d → Ends (meaning ch me boot zxid b r k d).connection
  both_rows b id epoch seq e c d a (inl h) = over_row b id epoch seq e d h
  both_rows b id epoch seq e c d a (inr h) = close_ends id epoch seq a.next b e d a.waiting (h.phase ∙ a.phase) (ap (awaited seq) h.queue ∙ a.there) a.close

-- ---- an entry is applied

informed_ends : (ch : Choices) (x : Node) (e : LogEntry) (id epoch seq k : ℕ) (s : Seat) → IsClose x e id epoch seq → map.get x.seats k ≡ Some s → Awaits s.connection id epoch seq → SeatEnds (map.get (informed ch x e.body (apply x.state e)).seats k)
unfolding informed with_row
informed_ends ch x e id epoch seq k s close there a = let o = apply x.state e in let f = fired x.watches o.events in
    subst SeatEnds (sym (get-mapped (row_at (meaning ch x.me x.boot o.state.applied e.body o.reply)) _ k
    ∙ ap (option_map (row_at (meaning ch x.me x.boot o.state.applied e.body o.reply) k)) (get-mapped (row_at (hears ch f.pairs)) x.seats k ∙ ap (option_map (row_at (hears ch f.pairs) k)) there)))
    (both_rows ch x.me x.boot o.state.applied k o.reply close.timely e.body id epoch seq close.body s.connection (hears ch f.pairs k s.connection).connection a (heard_by ch f.pairs k s.connection))

committed_ends : (ch : Choices) (x : Node) (now : ℕ) (e : LogEntry) (id epoch seq k : ℕ) (s : Seat) → IsClose x e id epoch seq → map.get x.seats k ≡ Some s → Awaits s.connection id epoch seq → SeatEnds (map.get (committed ch x now e).table.seats k)
unfolding committed greeted
committed_ends ch x now e id epoch seq k s close there a = let o = apply x.state e in
    all_ends ch o.state k _ _ (greet_ends ch (ground now o.state x) (desk x) (session_of e.body o.reply) k (informed ch x e.body o) _ (informed_ends ch x e id epoch seq k s close there a))

-- at rest it is over
rest_over : (t : Seat) → Ends t.connection → is_at_rest t.connection.queue ≡ true → is_over t.connection.phase ≡ true
rest_over t (inl h) q = h
rest_over t (inr l) q = absurd (unrested l.front (subst (λ z. is_at_rest z ≡ true) l.queue q) l.told) where
  unrested_by : (m : Option Mark) (r : Option WireReply) → (is_some m && not (is_some r)) ≡ true → is_some r ≡ true → ⊥
  unrested_by None r h e = no false refl h
  unrested_by (Some m) None h e = no false refl e
  unrested_by (Some m) (Some r) h e = no false refl h

  unrested : (w : Waiting) → is_at_rest (w ∷ []) ≡ true → is_some w.reply ≡ true → ⊥
  unrested w h e = unrested_by w.mark w.reply h e

seat_over : (o : Option Seat) (t : Seat) → o ≡ Some t → SeatEnds o → IsResting o → is_over t.connection.phase ≡ true
seat_over None t e h q = absurd (no_value t (sym e))
seat_over (Some u) t e h q = subst (λ (z : Seat). is_over z.connection.phase ≡ true) (same_value u t e) (rest_over u h q)

module _ (I : Type 0) where
  commit_closes : (ch : Choices) (x : Node) (now : ℕ) (e : LogEntry) (id epoch seq k : ℕ) (s t : Seat) (o : Option LogEntry) → o ≡ Some e → IsClose x e id epoch seq → map.get x.seats k ≡ Some s → Awaits s.connection id epoch seq
      → map.get (commit_turn ch x now o).node.seats k ≡ Some t → is_over t.connection.phase ≡ true
  commit_closes ch x now e id epoch seq k s t None which close there a is = absurd (no_value e (sym which))
  commit_closes ch x now e id epoch seq k s t (Some d) which close there a is = let same = same_value d e which in
      seat_over (map.get (committed ch x now e).table.seats k) t (ap (λ z. map.get (committed ch x now z).table.seats k) (sym same) ∙ is) (committed_ends ch x now e id epoch seq k s close there a) (committed_quiet ch x now e k)

  turn_closes : (words : Words) (im : Images I) (ch : Choices) (x : Node) (now : ℕ) (out : raft.Outcome I) (image : Option I) (v : NodeEventKind (Mail I)) (e : LogEntry) (id epoch seq k : ℕ) (s t : Seat) → applies x v ≡ Some e → IsClose x e id epoch seq → map.get x.seats k ≡ Some s → Awaits s.connection id epoch seq
      → map.get (turned words im ch x now out image v).node.seats k ≡ Some t → is_over t.connection.phase ≡ true
  unfolding turned
  turn_closes words im ch x now out image (kind.Accept draw) e id epoch seq k s t which close there a is = absurd (no_value e (sym which))
  turn_closes words im ch x now out image (kind.Client j bytes) e id epoch seq k s t which close there a is = absurd (no_value e (sym which))
  turn_closes words im ch x now out image (kind.Hangup j) e id epoch seq k s t which close there a is = absurd (no_value e (sym which))
  turn_closes words im ch x now out image (kind.Drain j) e id epoch seq k s t which close there a is = absurd (no_value e (sym which))
  turn_closes words im ch x now out image (kind.Deliver m) e id epoch seq k s t which close there a is = absurd (no_value e (sym which))
  turn_closes words im ch x now out image kind.Timeout e id epoch seq k s t which close there a is = absurd (no_value e (sym which))
  turn_closes words im ch x now out image kind.Beat e id epoch seq k s t which close there a is = absurd (no_value e (sym which))
  turn_closes words im ch x now out image kind.CommitOne e id epoch seq k s t which close there a is = commit_closes ch x now e id epoch seq k s t (upcoming x) which close there a is
  turn_closes words im ch x now out image kind.ExpireDue e id epoch seq k s t which close there a is = absurd (no_value e (sym which))
  turn_closes words im ch x now out image kind.Snapshot e id epoch seq k s t which close there a is = absurd (no_value e (sym which))

  pub closes_end : ClosesEndConnections I
  unfolding step together
  closes_end words im ch x v e id epoch seq k s t which close there a is = let input = asked words im ch x v.now v.kind in
      turn_closes words im ch x v.now (reacted x input) (installed x input) v.kind e id epoch seq k s t which close there a is
