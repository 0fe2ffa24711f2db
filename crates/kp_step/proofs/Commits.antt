-- What an applied entry does to the queues, and what a risen term and an image do.
use Rattle.std.proofs.Common.{◌≡◌, ℕ, zero, suc, Bool, true, false, ◌&&◌, ◌||◌, not, List, [], ◌∷◌, ◌++◌, length, slice_get, slice_set, Option, Some, None, is_some, refl, ap, sym, subst, ◌∙◌, append-nil}
use Rattle.std.specs.Prelude.{if◌then◌else◌, nat_lt}
use Rattle.std.specs.List.{AllByRecursion}
use Rattle.std.specs.FinMap as map
use Rattle.kp_model.specs.declared.entry.Body.{Body}
use Rattle.kp_model.specs.declared.entry.Body.TheVariants as body
use Rattle.kp_model.specs.declared.reply.Event.{Event}
use Rattle.kp_model.specs.declared.reply.Reply.{Reply}
use Rattle.kp_model.specs.declared.reply.Reply.TheVariants as reply
use Rattle.kp_model.specs.declared.session.Origin.{Origin}
use Rattle.kp_model.specs.LogEntry.{LogEntry}
use Rattle.kp_model.specs.State.{State, same_origin}
use Rattle.kp_model.specs.Step.{apply}
use Rattle.kp_model.specs.Taken.{is_stale}
use Rattle.kp_ask.specs.Answers.{answer_to}
use Rattle.kp_wire.specs.declared.request.Request.{Request}
use Rattle.kp_wire.specs.declared.reply.WireReply.{WireReply}
use Rattle.kp_wire.specs.declared.reply.WireReply.TheVariants as sent
use Rattle.kp_watch.specs.declared.watch.Watch.{Watch}
use Rattle.kp_watch.specs.Watching.{fired}
use Rattle.kp_conn.specs.declared.phase.Phase.{Phase}
use Rattle.kp_conn.specs.declared.phase.Phase.TheVariants as phase
use Rattle.kp_conn.specs.declared.waiting.Waiting.{Waiting}
use Rattle.kp_conn.specs.Connection.{Connection, closed, put, is_over}
use Rattle.kp_conn.specs.Packets.{reply_packet}
use Rattle.kp_conn.specs.Queue.{awaited, is_close, place_of, replied, settled_at, settled_queue}
use Rattle.kp_step.specs.declared.seat.Seat.{Seat}
use Rattle.kp_step.specs.Choices.{Choices, is_out, less}
use Rattle.kp_step.specs.Node.{Node, Seats}
use Rattle.kp_step.specs.Answers.{Cause, code_of, by_end, by_move, by_term}
use Rattle.kp_step.specs.Settling.{Told, Settled, settled, settled_so, stays, refused, refused_if, told_by, telling, given_out, is_end}
use Rattle.kp_step.specs.Handing.{Ground, Desk, ground, desk, greeted_as}
use Rattle.kp_step.specs.Tables.{Table, tabled, settled_in, settled_one, settled_all}
use Rattle.kp_step.specs.Committing.{packets_for, hears, is_of, is_in, replied_in, replied_to, attached_to, applied_to, meaning, session_of, session_at, number_in, greeted_in, greeted_at, greeted_by, greeted, informed, committed}
use Rattle.kp_step.specs.Step.{risen_as, risen, ended}
use Rattle.kp_step.specs.Runs.{IsPart, requests_of, answered_of, IsToldOn}
use Rattle.kp_step.proofs.Tables.{no}
use Rattle.kp_step.proofs.Parts.{part_none, part_same, part_of, part_both, part_skip}
use Rattle.kp_step.proofs.Moving.{first_true, is_live, is_ending, is_bound, Moves, RowMoves, Goes, kept, still, shut, then_moves, still_at, row_goes, served_goes, settled_goes}
use Rattle.kp_step.proofs.Settles.{settled-moves}
use Rattle.kp_step.proofs.Serves.{choose, greet_moves}

abbrev pub RowMoved : (Told → Type 0) → Connection → Settled → Type 0
RowMoved P c r = Moves P c r.told [] r.connection

-- ---- refusals

-- all that waits is answered, up to where there is no memory, and the connection is over
pub record IsRefused (P : Told → Type 0) (q : List Waiting) (r : Settled) : Type 0 where
  pub part : IsPart (answered_of r.told) (requests_of q)
  pub empty : r.connection.queue ≡ []
  pub over : is_over r.connection.phase ≡ true
  pub tells : AllByRecursion P r.told

refuse_one : (P : Told → Type 0) (w : Waiting) (q : List Waiting) (t : Told) (c : Connection) (r : Settled) (b : Bool) → t.request ≡ w.request → P t → IsRefused P q r → IsRefused P (w ∷ q) (if b then settled_so (closed true c) [] else telling t r)
refuse_one P w q t c r true e f h = record { part = tt; empty = refl; over = refl; tells = tt }
refuse_one P w q t c r false e f h = record {
  part = subst (λ z. IsPart (z ∷ answered_of r.told) (w.request ∷ requests_of q)) (sym e) (part_both w.request (answered_of r.told) (requests_of q) h.part);
  empty = h.empty;
  over = h.over;
  tells = (f, h.tells);
}

-- of a refusal nothing is said but its index
abbrev pub Refuses : (Told → Type 0) → ℕ → Cause → Type 0
Refuses P zxid cause = (p : Phase) (q : Request) → P (told_by p zxid q (sent.Err (code_of cause)) cause)

pub refuse_all : (P : Told → Type 0) (n : Option ℕ) (zxid : ℕ) (cause : Cause) → Refuses P zxid cause → (c : Connection) (q : List Waiting) → IsRefused P q (refused n zxid cause c q)
unfolding refused
refuse_all P n zxid cause f c [] = record { part = refl; empty = refl; over = refl; tells = tt }
refuse_all P n zxid cause f c (w ∷ q) = refuse_one P w q (told_by c.phase zxid w.request (sent.Err (code_of cause)) cause) c (refused (less n) zxid cause (put (reply_packet w.request.xid zxid (sent.Err (code_of cause))) c) q) (is_out n) refl (f c.phase w.request)
    (refuse_all P (less n) zxid cause f (put (reply_packet w.request.xid zxid (sent.Err (code_of cause))) c) q)

refused_moves : (P : Told → Type 0) (c : Connection) (r : Settled) → IsRefused P c.queue r → RowMoved P c r
unfolding is_bound
refused_moves P c r h proper = record {
  proper = λ dead. h.empty;
  part = subst (λ z. IsPart (answered_of r.told ++ requests_of z) (requests_of c.queue ++ [])) (sym h.empty)
      (subst (λ z. IsPart z (requests_of c.queue ++ [])) (sym (append-nil (answered_of r.told))) (subst (IsPart (answered_of r.told)) (sym (append-nil (requests_of c.queue))) h.part));
  all = λ b. no (is_bound r.connection) b (first_true (is_over r.connection.phase) (is_live r.connection.phase && is_ending r.connection.queue) h.over);
  bound = λ b. first_true (is_over r.connection.phase) (is_live r.connection.phase && is_ending r.connection.queue) h.over;
  tells = h.tells;
}

refuse_moves : (P : Told → Type 0) (b : Bool) (n : Option ℕ) (zxid : ℕ) (cause : Cause) → Refuses P zxid cause → (c : Connection) → RowMoved P c (refused_if b n zxid cause c)
refuse_moves P true n zxid cause f c = refused_moves P c (refused n zxid cause c c.queue) (refuse_all P n zxid cause f c c.queue)
refuse_moves P false n zxid cause f c = still c

-- ---- events

given_moves : {P : Told → Type 0} (n : Option ℕ) (ps : List (List ℕ)) (c : Connection) → Moves P c [] [] (given_out n ps c)
unfolding given_out
given_moves n [] c = still c
given_moves {P = P} n (p ∷ ps) c = choose (Moves P c [] []) (is_out n) (closed true c) (given_out (less n) ps (put p c)) (shut true c c [])
    (then_moves c (put p c) (given_out (less n) ps (put p c)) [] [] [] [] (kept c (put p c) refl refl refl) (given_moves (less n) ps (put p c)))

pub hears_moves : (P : ℕ → Told → Type 0) (ch : Choices) (pairs : List (ℕ × Event)) → RowMoves P (hears ch pairs)
hears_moves P ch pairs k c = choose (RowMoved (P k) c) (is_over c.phase) (stays c) (stays (given_out (ch.luck k).events (packets_for k pairs) c)) (still c) (given_moves (ch.luck k).events (packets_for k pairs) c)

-- ---- a write keeps its answer

set_requests : (q : List Waiting) (i : ℕ) (w : Waiting) (r : WireReply) → slice_get q i ≡ Some w → requests_of (slice_set q i (replied r w)) ≡ requests_of q
set_requests [] i w r h = refl
set_requests (v ∷ q) zero w r h = ap (λ (o : Option Waiting). first_of o v ∷ requests_of q) (sym h) where
  first_of : Option Waiting → Waiting → Request
  first_of None v = v.request
  first_of (Some u) v = u.request
set_requests (v ∷ q) (suc i) w r h = ap (λ qs. v.request ∷ qs) (set_requests q i w r h)

found_part : (q : List Waiting) (i : ℕ) (w : Waiting) → slice_get q i ≡ Some w → IsPart (w.request ∷ []) (requests_of q)
found_part [] i w h = no false refl (ap is_some h)
found_part (v ∷ q) zero w h = subst (λ z. IsPart (z ∷ []) (v.request ∷ requests_of q)) (ap (λ (o : Option Waiting). or_else o v) h) (part_both v.request [] (requests_of q) (part_none (requests_of q))) where
  or_else : Option Waiting → Waiting → Request
  or_else None v = v.request
  or_else (Some u) v = u.request
found_part (v ∷ q) (suc i) w h = part_skip v.request (w.request ∷ []) (requests_of q) (found_part q i w h)

-- what is said of the queue behind the reply
record IsReplied (q n : List Waiting) : Type 0 where
  pub part : IsPart (requests_of n) (requests_of q)
  pub all : is_ending n ≡ false → requests_of q ≡ requests_of n
  pub ending : is_ending q ≡ true → is_ending n ≡ true

set_ending : (q : List Waiting) (i : ℕ) (w : Waiting) (r : WireReply) → slice_get q i ≡ Some w → is_close w.request.ask ≡ false → is_ending q ≡ true → is_ending (slice_set q i (replied r w)) ≡ true
set_ending [] i w r h e b = no false refl b
set_ending (v ∷ []) zero w r h e b = no (is_end v) (ap (λ z. z && is_some v.reply) (ap (λ (o : Option Waiting). closes o v) h ∙ e)) b where
  closes : Option Waiting → Waiting → Bool
  closes None v = is_close v.request.ask
  closes (Some u) v = is_close u.request.ask
set_ending (v ∷ []) (suc i) w r h e b = b
set_ending (v ∷ u ∷ q) i w r h e b = no false refl b

replied_at : (q : List Waiting) (i : ℕ) (w : Waiting) (r : WireReply) (b : Bool) → is_close w.request.ask ≡ b → slice_get q i ≡ Some w → IsReplied q (if b then replied r w ∷ [] else slice_set q i (replied r w))
replied_at q i w r true e h = record { part = found_part q i w h; all = λ o. no (is_end (replied r w)) o (ap (λ z. z && true) e); ending = λ o. ap (λ z. z && true) e }
replied_at q i w r false e h = record { part = part_of (requests_of (slice_set q i (replied r w))) (requests_of q) (set_requests q i w r h); all = λ o. sym (set_requests q i w r h); ending = set_ending q i w r h e }

replied_in_queue : (q : List Waiting) (i : ℕ) (r : WireReply) (o : Option Waiting) → slice_get q i ≡ o → IsReplied q (settled_at i r q o)
replied_in_queue q i r None h = record { part = part_same (requests_of q); all = λ o. refl; ending = λ o. o }
replied_in_queue q i r (Some w) h = replied_at q i w r (is_close w.request.ask) refl h

second_false : (o l e : Bool) → l ≡ true → (o || (l && e)) ≡ false → e ≡ false
second_false true l e t b = no true b refl
second_false false true e t b = b
second_false false false e t b = no false refl t

either_true : (o l e f : Bool) → (e ≡ true → f ≡ true) → (o || (l && e)) ≡ true → (o || (l && f)) ≡ true
either_true true l e f h b = refl
either_true false true e f h b = h b
either_true false false e f h b = b

with_queue_moves : {P : Told → Type 0} (c : Connection) (n : List Waiting) → is_live c.phase ≡ true → IsReplied c.queue n → Moves P c [] [] (record c { queue = n })
unfolding is_bound
with_queue_moves c n live h proper = record {
  proper = λ dead. no _ dead live;
  part = subst (IsPart (requests_of n)) (sym (append-nil (requests_of c.queue))) h.part;
  all = λ b. append-nil (requests_of c.queue) ∙ h.all (second_false (is_over c.phase) (is_live c.phase) (is_ending n) live b);
  bound = λ b. either_true (is_over c.phase) (is_live c.phase) (is_ending c.queue) (is_ending n) h.ending b;
  tells = tt;
}

reply_moves : {P : Told → Type 0} (seq : ℕ) (r : Reply) (c : Connection) (o : Option Waiting) → is_live c.phase ≡ true → Moves P c [] [] (replied_in seq r c o)
reply_moves seq r c None live = still c
reply_moves seq r c (Some w) live = with_queue_moves c (settled_queue seq (answer_to w.request.ask r) c.queue) live (replied_in_queue c.queue (place_of seq c.queue) (answer_to w.request.ask r) (awaited seq c.queue) refl)

in_live : (session epoch : ℕ) (p : Phase) → is_in session epoch p ≡ true → is_live p ≡ true
in_live session epoch phase.Fresh h = h
in_live session epoch (phase.Connecting ro) h = h
in_live session epoch (phase.Live s e n) h = refl
in_live session epoch (phase.Closing lost) h = h

written_by_case : {P : Told → Type 0} (session epoch seq : ℕ) (r : Reply) (c : Connection) (b : Bool) → is_in session epoch c.phase ≡ b → RowMoved P c (if b then stays (replied_to seq r c) else stays c)
written_by_case session epoch seq r c true e = reply_moves seq r c (awaited seq c.queue) (in_live session epoch c.phase e)
written_by_case session epoch seq r c false e = still c

-- ---- the meaning of an entry

attach_moves : (P : Told → Type 0) (ch : Choices) (zxid : ℕ) (mine o : Origin) (session : ℕ) (r : Reply) (k : ℕ) → Refuses P zxid by_move → (c : Connection) → RowMoved P c (attached_to ch zxid mine o session r k c)
attach_moves P ch zxid mine o session (reply.Epoch epoch) k f c = refuse_moves P (is_of session c.phase && not (same_origin o mine)) (ch.luck k).answers zxid by_move f c
attach_moves P ch zxid mine o session reply.Stale k f c = still c
attach_moves P ch zxid mine o session (reply.Err code) k f c = still c
attach_moves P ch zxid mine o session reply.Done k f c = still c
attach_moves P ch zxid mine o session (reply.Session id) k f c = still c
attach_moves P ch zxid mine o session (reply.Path path) k f c = still c
attach_moves P ch zxid mine o session (reply.PathStat path m) k f c = still c
attach_moves P ch zxid mine o session (reply.Stat m) k f c = still c
attach_moves P ch zxid mine o session (reply.Multi rs) k f c = still c
attach_moves P ch zxid mine o session (reply.Failed codes) k f c = still c

applied_moves : (P : Told → Type 0) (ch : Choices) (me boot zxid : ℕ) (b : Body) (r : Reply) (k : ℕ) → Refuses P zxid by_move → Refuses P zxid by_end → (c : Connection) → RowMoved P c (applied_to ch me boot zxid b r k c)
applied_moves P ch me boot zxid body.Noop r k f h c = still c
applied_moves P ch me boot zxid (body.OpenSession timeout passwd o) r k f h c = still c
applied_moves P ch me boot zxid (body.Attach session passwd o) r k f h c = attach_moves P ch zxid _ o session r k f c
applied_moves P ch me boot zxid (body.Expire session) r k f h c = refuse_moves P (is_of session c.phase) (ch.luck k).answers zxid by_end h c
applied_moves P ch me boot zxid (body.Write session epoch seq q) r k f h c = written_by_case session epoch seq r c (is_in session epoch c.phase) refl

pub meaning_moves : (s : State) (ch : Choices) (me boot : ℕ) (b : Body) (r : Reply) → RowMoves (λ k t. IsToldOn s k t) (meaning ch me boot s.applied b r)
unfolding meaning
meaning_moves s ch me boot b r k c = choose (RowMoved (λ t. IsToldOn s k t) c) (is_stale r) (stays c) (applied_to ch me boot s.applied b r k c) (still c)
    (applied_moves (λ t. IsToldOn s k t) ch me boot s.applied b r k (λ p q. (refl, refl)) (λ p q. (refl, refl)) c)

-- ---- a risen term, an image

risen_by : (P : Told → Type 0) (ch : Choices) (zxid k j : ℕ) → Refuses P zxid by_term → (c d : Connection) (p : Phase) → RowMoved P c (risen_as ch zxid j d p k c)
risen_by P ch zxid k j f c d phase.Fresh = still c
risen_by P ch zxid k j f c d (phase.Connecting ro) = shut false c c []
risen_by P ch zxid k j f c d (phase.Live s e n) = refuse_moves P (nat_lt 0 (length c.queue)) (ch.luck k).answers zxid by_term f c
risen_by P ch zxid k j f c d (phase.Closing lost) = still c

pub risen_moves : (s : State) (ch : Choices) → RowMoves (λ k t. IsToldOn s k t) (risen ch s.applied)
risen_moves s ch k c = risen_by (λ t. IsToldOn s k t) ch s.applied k k (λ p q. (refl, refl)) c c c.phase

pub ended_moves : (P : ℕ → Told → Type 0) → RowMoves P ended
ended_moves P k c = choose (RowMoved (P k) c) (is_over c.phase) (stays c) (stays (closed false c)) (still c) (shut false c c [])

-- ---- tables

pub tabled_goes : (P : ℕ → Told → Type 0) (m : Seats) (ws : List Watch) → Goes P m (tabled m ws)
tabled_goes P m ws k = still_at (P k) (map.get m k)

-- settling
settle_in_goes : (ch : Choices) (s : State) (m : Seats) (t : Table) (k : ℕ) (o : Option Seat) → map.get t.seats k ≡ o → Goes (λ k t. IsToldOn s k t) m t → Goes (λ k t. IsToldOn s k t) m (settled_in ch s t k o)
settle_in_goes ch s m t k None e g = g
settle_in_goes ch s m t k (Some x) e g = let r = settled s k (ch.luck k).answers t.watches x.connection x.connection.queue in
    settled_goes (λ k t. IsToldOn s k t) m t k x r e g (settled-moves s k (ch.luck k).answers t.watches x.connection)

pub settle_all_goes : (ch : Choices) (s : State) (m : Seats) (t : Table) (ks : List ℕ) → Goes (λ k t. IsToldOn s k t) m t → Goes (λ k t. IsToldOn s k t) m (settled_all ch s t ks)
unfolding settled_all settled_one
settle_all_goes ch s m t [] g = g
settle_all_goes ch s m t (k ∷ ks) g = settle_all_goes ch s m (settled_one ch s t k) ks (settle_in_goes ch s m t k (map.get t.seats k) refl g)

-- the newcomer
greet_in : (ch : Choices) (g : Ground) (d : Desk) (m : Seats) (t : Table) (id : Option ℕ) (k : ℕ) (x : Seat) (p : Phase) → x.connection.phase ≡ p → map.get t.seats k ≡ Some x → Goes (λ k t. IsToldOn g.state k t) m t → Goes (λ k t. IsToldOn g.state k t) m (greeted_in ch g d t id k x p).table
greet_in ch g d m t id k x phase.Fresh e there h = h
greet_in ch g d m t id k x (phase.Connecting ro) e there h = served_goes (λ k t. IsToldOn g.state k t) m t k x (greeted_as g (ch.luck k) k t.watches d x.connection ro (number_in id) (session_at g.state id)) h there (greet_moves g (ch.luck k) k t.watches d x.connection ro (number_in id) (session_at g.state id) (ap is_over e) (ap is_live e))
greet_in ch g d m t id k x (phase.Live s f n) e there h = h
greet_in ch g d m t id k x (phase.Closing lost) e there h = h

greet_at : (ch : Choices) (g : Ground) (d : Desk) (m : Seats) (t : Table) (id : Option ℕ) (k : ℕ) (o : Option Seat) → map.get t.seats k ≡ o → Goes (λ k t. IsToldOn g.state k t) m t → Goes (λ k t. IsToldOn g.state k t) m (greeted_at ch g d t id k o).table
greet_at ch g d m t id k None there h = h
greet_at ch g d m t id k (Some x) there h = greet_in ch g d m t id k x x.connection.phase refl there h

greet_by : (ch : Choices) (g : Ground) (d : Desk) (m : Seats) (t : Table) (id o : Option ℕ) → Goes (λ k t. IsToldOn g.state k t) m t → Goes (λ k t. IsToldOn g.state k t) m (greeted_by ch g d t id o).table
greet_by ch g d m t id None h = h
greet_by ch g d m t id (Some k) h = greet_at ch g d m t id k (map.get t.seats k) refl h

pub committed_goes : (ch : Choices) (x : Node) (now : ℕ) (e : LogEntry) → Goes (λ k t. IsToldOn (apply x.state e).state k t) x.seats (committed ch x now e).table
unfolding committed greeted informed
committed_goes ch x now e = let o = apply x.state e in let P : ℕ → Told → Type 0 = λ k t. IsToldOn o.state k t in
    settle_all_goes ch o.state x.seats _ _ (greet_by ch (ground now o.state x) (desk x) x.seats (informed ch x e.body o) (session_of e.body o.reply) _
    (row_goes P (meaning ch x.me x.boot o.state.applied e.body o.reply) (meaning_moves o.state ch x.me x.boot e.body o.reply) x.seats _
    (row_goes P (hears ch (fired x.watches o.events).pairs) (hears_moves P ch (fired x.watches o.events).pairs) x.seats (tabled x.seats (fired x.watches o.events).left) (tabled_goes P x.seats (fired x.watches o.events).left))))
