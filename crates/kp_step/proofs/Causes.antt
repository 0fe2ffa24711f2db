-- Where a refusal may come from.
use Rattle.std.proofs.Common.{◌≡◌, ℕ, Bool, true, false, cond, ◌&&◌, not, List, [], ◌∷◌, ◌++◌, length, Option, Some, None, is_some, refl, ap, subst, ◌∙◌}
use Rattle.std.specs.Prelude.{if◌then◌else◌, ◌==◌, nat_lt}
use Rattle.std.specs.List.{AllByRecursion}
use Rattle.std.specs.Ordering.{nat_cmp, eq_by_cmp}
use Rattle.std.specs.FinMap as map
use Rattle.kp_model.specs.declared.command.Cmd.{Cmd}
use Rattle.kp_model.specs.declared.entry.Body.{Body}
use Rattle.kp_model.specs.declared.entry.Body.TheVariants as body
use Rattle.kp_model.specs.declared.reply.Event.{Event}
use Rattle.kp_model.specs.declared.reply.Reply.{Reply}
use Rattle.kp_model.specs.declared.reply.Reply.TheVariants as reply
use Rattle.kp_model.specs.declared.session.Origin.{Origin}
use Rattle.kp_model.specs.declared.session.Session.{Session}
use Rattle.kp_model.specs.LogEntry.{LogEntry}
use Rattle.kp_model.specs.State.{State, same_origin}
use Rattle.kp_model.specs.Step.{apply}
use Rattle.kp_model.specs.Taken.{is_stale}
use Rattle.kp_raft.specs.declared.mail.Mail.{Mail}
use Rattle.kp_raft.specs.Parts as raft
use Rattle.kp_event.specs.declared.event.NodeEventKind.{NodeEventKind}
use Rattle.kp_event.specs.declared.event.NodeEventKind.TheVariants as kind
use Rattle.kp_ask.specs.Asks.{command}
use Rattle.kp_wire.specs.declared.connect.ConnectRequest.{ConnectRequest}
use Rattle.kp_wire.specs.declared.request.Request.{Request}
use Rattle.kp_wire.specs.declared.reply.WireReply.{WireReply}
use Rattle.kp_wire.specs.declared.reply.WireReply.TheVariants as sent
use Rattle.kp_watch.specs.declared.watch.Watch.{Watch}
use Rattle.kp_watch.specs.Watching.{fired}
use Rattle.kp_conn.specs.declared.fed.Fed.{Fed}
use Rattle.kp_conn.specs.declared.fed.FedEnd.{FedEnd}
use Rattle.kp_conn.specs.declared.fed.FedEnd.TheVariants as ends
use Rattle.kp_conn.specs.declared.phase.Phase.{Phase}
use Rattle.kp_conn.specs.declared.phase.Phase.TheVariants as phase
use Rattle.kp_conn.specs.declared.waiting.Mark.{Mark}
use Rattle.kp_conn.specs.declared.waiting.Waiting.{Waiting}
use Rattle.kp_conn.specs.Connection.{Connection, closed, put, is_over}
use Rattle.kp_conn.specs.Packets.{reply_packet}
use Rattle.kp_conn.specs.Fed.{fed}
use Rattle.kp_step.specs.declared.seat.Seat.{Seat}
use Rattle.kp_step.specs.Choices.{Choices, Luck, is_out, less}
use Rattle.kp_step.specs.Node.{Node, Images}
use Rattle.kp_step.specs.Answers.{Answer, Cause, by_state, by_entry, by_lack, by_term, by_move, by_end, code_of, answer_of, answer_by, unmarked, state_answer}
use Rattle.kp_step.specs.Settling.{Told, Settled, settled, settled_so, with_queue, put_answer, is_end, telling, told_by, session_in, refused, refused_if, stays}
use Rattle.kp_step.specs.Handing.{Ground, Desk, Served, served, joined_all, first_served, served_as, serves, is_refused, is_led, greeted_as, ground, desk}
use Rattle.kp_step.specs.Tables.{Table, Row, row_told, with_row, tabled, with_served, settled_in, settled_one, settled_all}
use Rattle.kp_step.specs.Applying.{upcoming}
use Rattle.kp_step.specs.Committing.{hears, is_of, is_in, attached_to, applied_to, meaning, session_of, session_at, number_in, greeted_in, greeted_at, greeted_by, greeted, informed, committed}
use Rattle.kp_step.specs.Asking.{Words, reacted, installed, asked, client_served}
use Rattle.kp_step.specs.Step.{Turn, client_turn, drain_turn, commit_turn, raft_table, risen_as, risen, ended, rose, with_row_if, turned, applies, together, step}
use Rattle.kp_step.specs.Causes.{takes_away, expires, applied_is, IsCaused, AreCaused, RefusalsAreCaused}
use Rattle.kp_step.proofs.Tables.{no}
use Rattle.kp_step.proofs.Settles.{by_answer, state_cause}
use Rattle.kp_step.proofs.Serves.{choose}

all_append : (P : Told → Type 0) (ts us : List Told) → AllByRecursion P ts → AllByRecursion P us → AllByRecursion P (ts ++ us)
all_append P [] us h k = k
all_append P (t ∷ ts) us h k = (h.0, all_append P ts us h.1 k)

-- ---- what is answered from the front is no refusal

abbrev pub is_plain : Cause → Bool
is_plain by_state = true
is_plain by_entry = true
is_plain by_lack = true
is_plain by_term = false
is_plain by_move = false
is_plain by_end = false

abbrev IsPlain : Told → Type 0
IsPlain t = is_plain t.cause ≡ true

abbrev ArePlain : List Told → Type 0
ArePlain ts = AllByRecursion (λ (t : Told). IsPlain t) ts

abbrev FrontPlain : Option Answer → Type 0
FrontPlain None = Unit {0}
FrontPlain (Some a) = is_plain a.cause ≡ true

front_plain : (s : State) (session k : ℕ) (ws : List Watch) (w : Waiting) (r : Option WireReply) (m : Option Mark) (o : Option Cmd) → FrontPlain (answer_by ws r m (unmarked ws o (state_answer s session k ws w.request.ask)))
front_plain s session k ws w (Some r) m o = refl
front_plain s session k ws w None (Some m) o = tt
front_plain s session k ws w None None (Some c) = refl
front_plain s session k ws w None None None = ap is_plain (state_cause s session k ws w.request.ask)

pub plain_is : (s : State) (session k : ℕ) (ws : List Watch) (w : Waiting) (a : Answer) → answer_of s session k ws w ≡ Some a → is_plain a.cause ≡ true
unfolding answer_of
plain_is s session k ws w a e = subst FrontPlain e (front_plain s session k ws w w.reply w.mark (command w.request.ask))

abbrev SettledPlain : Settled → Type 0
SettledPlain r = ArePlain r.told

plain_end : (b : Bool) (t : Told) (x y : Settled) → IsPlain t → SettledPlain x → SettledPlain y → SettledPlain (telling t (if b then x else y))
plain_end true t x y e p q = (e, p)
plain_end false t x y e p q = (e, q)

settled_plain : (s : State) (k : ℕ) (n : Option ℕ) (ws : List Watch) (c : Connection) (q : List Waiting) → SettledPlain (settled s k n ws c q)
unfolding settled
settled_plain s k n ws c [] = tt
settled_plain s k n ws c (w ∷ q) = by_answer SettledPlain (answer_of s (session_in c.phase) k ws w) (is_out n) (settled_so (with_queue (w ∷ q) c) ws) (settled_so (closed true c) ws) _ (λ e. tt) tt
    (λ a e. plain_end (is_end w) (told_by c.phase s.applied w.request a.reply a.cause) (settled_so (closed false (put_answer s.applied w.request a c)) a.watches) _ (plain_is s (session_in c.phase) k ws w a e) tt
    (settled_plain s k (less n) a.watches (put_answer s.applied w.request a c) q))

abbrev ServedPlain : Served → Type 0
ServedPlain w = ArePlain w.told

served_plain : (g : Ground) (luck : Luck) (k : ℕ) (ws : List Watch) (c : Connection) (d : Desk) (f : Fed) → ServedPlain (served g luck k ws c d f)
unfolding served
served_plain g luck k ws c d f = settled_plain g.state k luck.answers ws (joined_all g luck.requests c d f.requests).connection (joined_all g luck.requests c d f.requests).connection.queue

first_plain : (g : Ground) (k : ℕ) (draw : List ℕ) (text : List ℕ → List ℕ) (c : Connection) (d : Desk) (ws : List Watch) (o : Option ConnectRequest) (e : FedEnd) → ServedPlain (first_served g k draw text c d ws o e)
first_plain g k draw text c d ws (Some q) e = choose ServedPlain (is_refused q) _ _ tt (choose ServedPlain (is_led g d) _ _ tt tt)
first_plain g k draw text c d ws None ends.Ok = tt
first_plain g k draw text c d ws None (ends.Bad at) = tt
first_plain g k draw text c d ws None (ends.Word w) = tt

as_plain : (g : Ground) (luck : Luck) (k : ℕ) (draw : List ℕ) (text : List ℕ → List ℕ) (d : Desk) (ws : List Watch) (p : Phase) (c : Connection) (f : Fed) → ServedPlain (served_as g luck k draw text d ws p c f)
as_plain g luck k draw text d ws phase.Fresh c f = first_plain g k draw text c d ws f.connect f.end
as_plain g luck k draw text d ws (phase.Connecting ro) c f = first_plain g k draw text c d ws f.connect f.end
as_plain g luck k draw text d ws (phase.Live s e n) c f = served_plain g luck k ws c d f
as_plain g luck k draw text d ws (phase.Closing lost) c f = first_plain g k draw text c d ws f.connect f.end

serves_plain : (g : Ground) (luck : Luck) (k : ℕ) (draw : List ℕ) (text : List ℕ → List ℕ) (d : Desk) (ws : List Watch) (c : Connection) (bytes : List ℕ) → ServedPlain (serves g luck k draw text d ws c bytes)
unfolding serves
serves_plain g luck k draw text d ws c bytes = as_plain g luck k draw text d ws c.phase (fed c bytes).0 (fed c bytes).1

greeted_plain : (g : Ground) (luck : Luck) (k : ℕ) (ws : List Watch) (d : Desk) (c : Connection) (ro : Bool) (id : ℕ) (x : Option Session) → ServedPlain (greeted_as g luck k ws d c ro id x)
greeted_plain g luck k ws d c ro id None = tt
greeted_plain g luck k ws d c ro id (Some x) = served_plain g luck k ws _ d _

-- ---- in one step

module _ (x : Node) (up : Bool) (e : Option LogEntry) where
  abbrev pub C : ℕ → Told → Type 0
  C k t = IsCaused x up e k t t.cause

  by_plain : (k : ℕ) (t : Told) (c : Cause) → is_plain c ≡ true → IsCaused x up e k t c
  by_plain k t by_state h = tt
  by_plain k t by_entry h = tt
  by_plain k t by_lack h = tt
  by_plain k t by_term h = no false refl h
  by_plain k t by_move h = no false refl h
  by_plain k t by_end h = no false refl h

  all_plain : (k : ℕ) (ts : List Told) → ArePlain ts → AllByRecursion (λ t. C k t) ts
  all_plain k [] h = tt
  all_plain k (t ∷ ts) h = (by_plain k t t.cause h.0, all_plain k ts h.1)

  -- ---- tables

  abbrev pub Caused : Table → Type 0
  Caused t = (k : ℕ) → AllByRecursion (λ u. C k u) (t.told k)

  abbrev pub RowCaused : Row → Type 0
  RowCaused f = (k : ℕ) (c : Connection) → AllByRecursion (λ u. C k u) (f k c).told

  row_caused : (f : Row) → RowCaused f → (k : ℕ) (o : Option Seat) → AllByRecursion (λ u. C k u) (row_told f k o)
  row_caused f h k None = tt
  row_caused f h k (Some s) = h k s.connection

  rows_caused : (f : Row) → RowCaused f → (t : Table) → Caused t → Caused (with_row f t)
  unfolding with_row
  rows_caused f h t all k = all_append (λ u. C k u) (t.told k) (row_told f k (map.get t.seats k)) (all k) (row_caused f h k (map.get t.seats k))

  more_caused : (j k : ℕ) (b : Bool) (ts us : List Told) → AllByRecursion (λ u. C j u) ts → ArePlain us → AllByRecursion (λ u. C j u) (cond b (ts ++ us) ts)
  more_caused j k true ts us h p = all_append (λ u. C j u) ts us h (all_plain j us p)
  more_caused j k false ts us h p = h

  served_caused : (k : ℕ) (s : Seat) (w : Served) (t : Table) → ServedPlain w → Caused t → Caused (with_served k s w t)
  served_caused k s w t p all j = more_caused j k (eq_by_cmp nat_cmp j k) (t.told j) w.told (all j) p

  settle_caused : (ch : Choices) (s : State) (t : Table) (k : ℕ) (o : Option Seat) → Caused t → Caused (settled_in ch s t k o)
  settle_caused ch s t k None all = all
  settle_caused ch s t k (Some y) all = λ j. more_caused j k (eq_by_cmp nat_cmp j k) (t.told j) _ (all j) (settled_plain s k (ch.luck k).answers t.watches y.connection y.connection.queue)

  all_settle_caused : (ch : Choices) (s : State) (t : Table) (ks : List ℕ) → Caused t → Caused (settled_all ch s t ks)
  unfolding settled_all settled_one
  all_settle_caused ch s t [] all = all
  all_settle_caused ch s t (k ∷ ks) all = all_settle_caused ch s (settled_one ch s t k) ks (settle_caused ch s t k (map.get t.seats k) all)

  greet_in_caused : (ch : Choices) (g : Ground) (d : Desk) (t : Table) (id : Option ℕ) (k : ℕ) (y : Seat) (p : Phase) → Caused t → Caused (greeted_in ch g d t id k y p).table
  greet_in_caused ch g d t id k y phase.Fresh all = all
  greet_in_caused ch g d t id k y (phase.Connecting ro) all = served_caused k y (greeted_as g (ch.luck k) k t.watches d y.connection ro (number_in id) (session_at g.state id)) t (greeted_plain g (ch.luck k) k t.watches d y.connection ro (number_in id) (session_at g.state id)) all
  greet_in_caused ch g d t id k y (phase.Live s f n) all = all
  greet_in_caused ch g d t id k y (phase.Closing lost) all = all

  greet_at_caused : (ch : Choices) (g : Ground) (d : Desk) (t : Table) (id : Option ℕ) (k : ℕ) (o : Option Seat) → Caused t → Caused (greeted_at ch g d t id k o).table
  greet_at_caused ch g d t id k None all = all
  greet_at_caused ch g d t id k (Some y) all = greet_in_caused ch g d t id k y y.connection.phase all

  greet_caused : (ch : Choices) (g : Ground) (d : Desk) (t : Table) (id o : Option ℕ) → Caused t → Caused (greeted_by ch g d t id o).table
  greet_caused ch g d t id None all = all
  greet_caused ch g d t id (Some k) all = greet_at_caused ch g d t id k (map.get t.seats k) all

  -- ---- refusals

  refuse_caused : (k : ℕ) (n : Option ℕ) (zxid : ℕ) (cause : Cause) (c : Connection) (q : List Waiting) → ((r : Request) → IsCaused x up e k (told_by c.phase zxid r (sent.Err (code_of cause)) cause) cause) → AllByRecursion (λ u. C k u) (refused n zxid cause c q).told
  unfolding refused
  refuse_caused k n zxid cause c [] f = tt
  refuse_caused k n zxid cause c (w ∷ q) f = choose (λ (r : Settled). AllByRecursion (λ u. C k u) r.told) (is_out n) (settled_so (closed true c) [])
      (telling (told_by c.phase zxid w.request (sent.Err (code_of cause)) cause) (refused (less n) zxid cause (put (reply_packet w.request.xid zxid (sent.Err (code_of cause))) c) q))
      tt (f w.request, refuse_caused k (less n) zxid cause (put (reply_packet w.request.xid zxid (sent.Err (code_of cause))) c) q f)

  refuse_if_caused : (b : Bool) (k : ℕ) (n : Option ℕ) (zxid : ℕ) (cause : Cause) (c : Connection) → (b ≡ true → (r : Request) → IsCaused x up e k (told_by c.phase zxid r (sent.Err (code_of cause)) cause) cause) → AllByRecursion (λ u. C k u) (refused_if b n zxid cause c).told
  refuse_if_caused true k n zxid cause c f = refuse_caused k n zxid cause c c.queue (f refl)
  refuse_if_caused false k n zxid cause c f = tt

  hears_caused : (ch : Choices) (pairs : List (ℕ × Event)) → RowCaused (hears ch pairs)
  hears_caused ch pairs k c = choose (λ (r : Settled). AllByRecursion (λ u. C k u) r.told) (is_over c.phase) _ _ tt tt

  risen_caused : (ch : Choices) (zxid : ℕ) → up ≡ true → RowCaused (risen ch zxid)
  risen_caused ch zxid h k c = by_phase c.phase where
    by_phase : (p : Phase) → AllByRecursion (λ u. C k u) (risen_as ch zxid k c p k c).told
    by_phase phase.Fresh = tt
    by_phase (phase.Connecting ro) = tt
    by_phase (phase.Live s f n) = refuse_if_caused (nat_lt 0 (length c.queue)) k (ch.luck k).answers zxid by_term c (λ b r. h)
    by_phase (phase.Closing lost) = tt

  ended_caused : RowCaused ended
  ended_caused k c = choose (λ (r : Settled). AllByRecursion (λ u. C k u) r.told) (is_over c.phase) _ _ tt tt

-- ---- an entry that is applied

-- of a live connection of the session
moved_session : (s : ℕ) (b : Bool) (p : Phase) → (is_of s p && b) ≡ true → ((session_in p == s) && b) ≡ true
moved_session s b phase.Fresh h = no false refl h
moved_session s b (phase.Connecting ro) h = no false refl h
moved_session s b (phase.Live t e n) h = h
moved_session s b (phase.Closing lost) h = no false refl h

ended_session : (s : ℕ) (stale : Bool) (p : Phase) → stale ≡ false → is_of s p ≡ true → (not stale && (session_in p == s)) ≡ true
ended_session s true p e h = no true e refl
ended_session s false phase.Fresh e h = no false refl h
ended_session s false (phase.Connecting ro) e h = no false refl h
ended_session s false (phase.Live t f n) e h = h
ended_session s false (phase.Closing lost) e h = no false refl h

-- what the entry is
abbrev IsApplied : Node → Option LogEntry → Body → Reply → Type 0
IsApplied x e b r = (f : Body → Reply → Bool) → applied_is f x.state e ≡ f b r

module _ (x : Node) (up : Bool) (e : Option LogEntry) where
  attach_caused : (ch : Choices) (zxid : ℕ) (o : Origin) (session : ℕ) (passwd : List ℕ) (r : Reply) → IsApplied x e (body.Attach session passwd o) r → (k : ℕ) (c : Connection)
      → AllByRecursion (λ u. C x up e k u) (attached_to ch zxid (record { node = x.me; boot = x.boot; conn = k }) o session r k c).told
  attach_caused ch zxid o session passwd (reply.Epoch epoch) is k c = let mine : Origin = record { node = x.me; boot = x.boot; conn = k } in
      refuse_if_caused x up e (is_of session c.phase && not (same_origin o mine)) k (ch.luck k).answers zxid by_move c
      (λ b r. is (takes_away mine (session_in c.phase)) ∙ moved_session session (not (same_origin o mine)) c.phase b)
  attach_caused ch zxid o session passwd reply.Stale is k c = tt
  attach_caused ch zxid o session passwd (reply.Err code) is k c = tt
  attach_caused ch zxid o session passwd reply.Done is k c = tt
  attach_caused ch zxid o session passwd (reply.Session id) is k c = tt
  attach_caused ch zxid o session passwd (reply.Path path) is k c = tt
  attach_caused ch zxid o session passwd (reply.PathStat path m) is k c = tt
  attach_caused ch zxid o session passwd (reply.Stat m) is k c = tt
  attach_caused ch zxid o session passwd (reply.Multi rs) is k c = tt
  attach_caused ch zxid o session passwd (reply.Failed codes) is k c = tt

  applied_caused : (ch : Choices) (zxid : ℕ) (b : Body) (r : Reply) → IsApplied x e b r → is_stale r ≡ false → (k : ℕ) (c : Connection) → AllByRecursion (λ u. C x up e k u) (applied_to ch x.me x.boot zxid b r k c).told
  applied_caused ch zxid body.Noop r is fresh k c = tt
  applied_caused ch zxid (body.OpenSession timeout passwd o) r is fresh k c = tt
  applied_caused ch zxid (body.Attach session passwd o) r is fresh k c = attach_caused ch zxid o session passwd r is k c
  applied_caused ch zxid (body.Expire session) r is fresh k c = refuse_if_caused x up e (is_of session c.phase) k (ch.luck k).answers zxid by_end c
      (λ b q. is (expires (session_in c.phase)) ∙ ended_session session (is_stale r) c.phase fresh b)
  applied_caused ch zxid (body.Write session epoch seq q) r is fresh k c = choose (λ (s : Settled). AllByRecursion (λ u. C x up e k u) s.told) (is_in session epoch c.phase) _ _ tt tt

  stale_or : (b : Bool) (r : Reply) → is_stale r ≡ b → (k : ℕ) (y z : Settled) → AllByRecursion (λ u. C x up e k u) y.told → (b ≡ false → AllByRecursion (λ u. C x up e k u) z.told) → AllByRecursion (λ u. C x up e k u) (if b then y else z).told
  stale_or true r h k y z p q = p
  stale_or false r h k y z p q = q refl

  meaning_caused : (ch : Choices) (zxid : ℕ) (b : Body) (r : Reply) → IsApplied x e b r → RowCaused x up e (meaning ch x.me x.boot zxid b r)
  unfolding meaning
  meaning_caused ch zxid b r is k c = stale_or (is_stale r) r refl k (stays c) (applied_to ch x.me x.boot zxid b r k c) tt (λ fresh. applied_caused ch zxid b r is fresh k c)

commit_table : (ch : Choices) (x : Node) (now : ℕ) (up : Bool) (e : LogEntry) → Caused x up (Some e) (committed ch x now e).table
unfolding committed greeted informed
commit_table ch x now up e = let o = apply x.state e in
    all_settle_caused x up (Some e) ch o.state _ _ (greet_caused x up (Some e) ch (ground now o.state x) (desk x) (informed ch x e.body o) (session_of e.body o.reply) _
    (rows_caused x up (Some e) (meaning ch x.me x.boot o.state.applied e.body o.reply) (meaning_caused x up (Some e) ch o.state.applied e.body o.reply (λ f. refl)) _
    (rows_caused x up (Some e) (hears ch (fired x.watches o.events).pairs) (hears_caused x up (Some e) ch (fired x.watches o.events).pairs) (tabled x.seats (fired x.watches o.events).left) (λ k. tt))))

-- ---- all events

abbrev TurnCaused : Node → Bool → Option LogEntry → Turn → Type 0
TurnCaused x up e t = AreCaused x up e t.told

client_caused : (words : Words) (ch : Choices) (x : Node) (now k : ℕ) (bytes : List ℕ) (up : Bool) (o : Option Seat) → TurnCaused x up None (client_turn words ch x now k bytes o)
unfolding client_served
client_caused words ch x now k bytes up None = λ j. tt
client_caused words ch x now k bytes up (Some s) = choose (TurnCaused x up None) (is_over s.connection.phase) _ _ (λ j. tt)
    (served_caused x up None k s (client_served words ch x now k bytes s) (tabled x.seats x.watches) (serves_plain (ground now x.state x) (ch.luck k) k s.draw (words x) (desk x) x.watches s.connection bytes) (λ j. tt))

drain_caused : (x : Node) (k : ℕ) (up : Bool) (o : Option Seat) → TurnCaused x up None (drain_turn x k o)
drain_caused x k up None = λ j. tt
drain_caused x k up (Some s) = λ j. tt

commit_caused : (ch : Choices) (x : Node) (now : ℕ) (up : Bool) (o : Option LogEntry) → TurnCaused x up o (commit_turn ch x now o)
commit_caused ch x now up None = λ j. tt
commit_caused ch x now up (Some e) = commit_table ch x now up e

if_caused : (x : Node) (up : Bool) (e : Option LogEntry) (b : Bool) (f : Row) → (b ≡ true → RowCaused x up e f) → (t : Table) → Caused x up e t → Caused x up e (with_row_if b f t)
if_caused x up e true f h t all = rows_caused x up e f (h refl) t all
if_caused x up e false f h t all = all

raft_caused : {I : Type 0} (ch : Choices) (x : Node) (o : raft.Outcome I) (image : Option I) → Caused x (rose x o) None (raft_table ch x o image)
unfolding raft_table
raft_caused ch x o image = if_caused x (rose x o) None (is_some image) ended (λ b. ended_caused x (rose x o) None) _
    (if_caused x (rose x o) None (rose x o) (risen ch x.state.applied) (λ b. risen_caused x (rose x o) None ch x.state.applied b) (tabled x.seats x.watches) (λ k. tt))

module _ (I : Type 0) where
  turn_caused : (words : Words) (im : Images I) (ch : Choices) (x : Node) (now : ℕ) (o : raft.Outcome I) (image : Option I) (v : NodeEventKind (Mail I)) → TurnCaused x (rose x o) (applies x v) (turned words im ch x now o image v)
  unfolding turned
  turn_caused words im ch x now o image (kind.Accept draw) = λ j. tt
  turn_caused words im ch x now o image (kind.Client k bytes) = client_caused words ch x now k bytes (rose x o) (map.get x.seats k)
  turn_caused words im ch x now o image (kind.Hangup k) = λ j. tt
  turn_caused words im ch x now o image (kind.Drain k) = drain_caused x k (rose x o) (map.get x.seats k)
  turn_caused words im ch x now o image (kind.Deliver m) = raft_caused ch x o image
  turn_caused words im ch x now o image kind.Timeout = raft_caused ch x o image
  turn_caused words im ch x now o image kind.Beat = λ j. tt
  turn_caused words im ch x now o image kind.CommitOne = commit_caused ch x now (rose x o) (upcoming x)
  turn_caused words im ch x now o image kind.ExpireDue = λ j. tt
  turn_caused words im ch x now o image kind.Snapshot = λ j. tt

  pub refusals_are_caused : RefusalsAreCaused I
  unfolding step together
  refusals_are_caused words im ch x v = let input = asked words im ch x v.now v.kind in turn_caused words im ch x v.now (reacted x input) (installed x input) v.kind
