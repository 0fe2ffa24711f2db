-- What stays of a connection that is served: the session that it serves, until it is over, and the watches of the others.
use Rattle.std.proofs.Common.{◌≡◌, ℕ, Bool, true, false, cond, not, ◌&&◌, ◌||◌, nat_eq, List, [], ◌∷◌, ◌++◌, Option, Some, None, refl, ap, sym, subst, ◌∙◌}
use Rattle.std.specs.Prelude.{if◌then◌else◌, nat_le}
use Rattle.std.specs.FinMap as map
use Rattle.kp_model.specs.declared.command.Cmd.{Cmd}
use Rattle.kp_model.specs.declared.entry.Body.{Body}
use Rattle.kp_model.specs.declared.entry.Body.TheVariants as body
use Rattle.kp_model.specs.Limits.{last_number}
use Rattle.kp_model.specs.State.{State}
use Rattle.kp_ask.specs.Asks.{command}
use Rattle.kp_wire.specs.declared.request.Request.{Request}
use Rattle.kp_watch.specs.declared.watch.Watch.{Watch}
use Rattle.kp_watch.specs.Watching.{dropped}
use Rattle.kp_conn.specs.declared.fed.Fed.{Fed}
use Rattle.kp_conn.specs.declared.fed.FedEnd.{FedEnd}
use Rattle.kp_conn.specs.declared.fed.FedEnd.TheVariants as ends
use Rattle.kp_conn.specs.declared.phase.Phase.{Phase}
use Rattle.kp_conn.specs.declared.phase.Phase.TheVariants as phase
use Rattle.kp_conn.specs.declared.waiting.Mark.{Mark}
use Rattle.kp_conn.specs.declared.waiting.Waiting.{Waiting}
use Rattle.kp_conn.specs.declared.first.First.{First}
use Rattle.kp_conn.specs.declared.first.First.TheVariants as firsts
use Rattle.kp_conn.specs.Fed.{fed, fed_as, fed_first, with_piece}
use Rattle.kp_conn.specs.Connection as conn
use Rattle.kp_wire.specs.declared.connect.ConnectRequest.{ConnectRequest}
use Rattle.kp_conn.specs.Connection.{Connection, closed, joined, is_over, is_lost}
use Rattle.kp_step.specs.declared.seat.Seat.{Seat}
use Rattle.kp_step.specs.Choices.{Luck, is_out, less}
use Rattle.kp_step.specs.Node.{Seats}
use Rattle.kp_step.specs.Answers.{Answer, answer_of}
use Rattle.kp_step.specs.Settling.{Settled, settled, settled_so, settled_by, goes_on, with_queue, put_answer, session_in, is_end}
use Rattle.kp_step.specs.Handing as step
use Rattle.kp_step.specs.Handing.{Joined, joined_so, joined_all, joined_one, joined_as, joined_write, taking, numbered, unnumbered, handed, proposed, is_led, served, served_as, serves, first_served, connects, served_so, is_refused, refusal, opening, origin, Served, ended_by}
use Rattle.kp_step.specs.Step.{keeps_watches, swept}
use Rattle.kp_step.proofs.Tables.{no}
use Rattle.kp_node.specs.Changing.{AreKeptBut}
use Rattle.kp_node.specs.Deciding.{kept_watches}
use Rattle.kp_node.specs.Holding.{served_by, AreKept}
use Rattle.kp_node.proofs.Maps.{get-put}
use Rattle.std.specs.Cmp.{nat_eq_equiv}
use Rattle.kp_node.proofs.Changed.{turn_watches, walks_on, walk_ends}
use Rattle.kp_node.proofs.Owned.{answer-own}

-- a connection goes on as another: what is over stays so, and its session stays until it is
pub record GoesOn (c d : Connection) : Type 0 where
  pub over : is_over c.phase ≡ true → is_over d.phase ≡ true
  pub session : is_over d.phase ≡ false → served_by d.phase ≡ served_by c.phase

same_phase : (c d : Connection) → d.phase ≡ c.phase → GoesOn c d
same_phase c d e = record { over = λ o. ap is_over e ∙ o; session = λ o. ap served_by e }

shut : (l : Bool) (c d : Connection) → GoesOn c (closed l d)
shut l c d = record { over = λ o. refl; session = λ o. no true o refl }

module _ (a b c : Connection) (f : GoesOn a b) (g : GoesOn b c) where
  then_session : (l : Bool) → is_over b.phase ≡ l → is_over c.phase ≡ false → served_by c.phase ≡ served_by a.phase
  then_session true e o = no (is_over c.phase) o (g.over e)
  then_session false e o = g.session o ∙ f.session e

  then_goes : GoesOn a c
  then_goes = record { over = λ o. g.over (f.over o); session = then_session (is_over b.phase) refl }

either_goes : (b : Bool) (c x y : Connection) → GoesOn c x → GoesOn c y → GoesOn c (if b then x else y)
either_goes true c x y f g = f
either_goes false c x y f g = g

-- ---- requests join

number_over : (p : Phase) (m : Option Mark) → is_over (conn.numbered p m) ≡ is_over p
number_over phase.Fresh m = refl
number_over (phase.Connecting ro) m = refl
number_over (phase.Live s e n) None = refl
number_over (phase.Live s e n) (Some m) = refl
number_over (phase.Closing l) m = refl

number_serves : (p : Phase) (m : Option Mark) → served_by (conn.numbered p m) ≡ served_by p
number_serves phase.Fresh m = refl
number_serves (phase.Connecting ro) m = refl
number_serves (phase.Live s e n) None = refl
number_serves (phase.Live s e n) (Some m) = refl
number_serves (phase.Closing l) m = refl

join_goes : (w : Waiting) (c : Connection) → GoesOn c (joined w c)
join_goes w c = record { over = λ o. number_over c.phase w.mark ∙ o; session = λ o. number_serves c.phase w.mark }

abbrev JoinGoes : Connection → Joined → Type 0
JoinGoes c j = GoesOn c j.connection

either_joins : (b : Bool) (x y : Joined) (c : Connection) → JoinGoes c x → JoinGoes c y → JoinGoes c (if b then x else y)
either_joins true x y c p q = p
either_joins false x y c p q = q

write_goes : (g : step.Ground) (c : Connection) (d : step.Desk) (q : Request) (w : Cmd) (p : Phase) → JoinGoes c (joined_write g c d q w p)
write_goes g c d q w phase.Fresh = join_goes (unnumbered q) c
write_goes g c d q w (phase.Connecting ro) = join_goes (unnumbered q) c
write_goes g c d q w (phase.Live s e n) = either_joins (is_led g d && nat_le n last_number) (joined_so (joined (numbered q n g.term) c) (handed g d (body.Write s e n w))) (joined_so (joined (unnumbered q) c) d) c (join_goes (numbered q n g.term) c) (join_goes (unnumbered q) c)
write_goes g c d q w (phase.Closing l) = join_goes (unnumbered q) c

as_goes : (g : step.Ground) (c : Connection) (d : step.Desk) (q : Request) (o : Option Cmd) → JoinGoes c (joined_as g c d q o)
as_goes g c d q None = join_goes (unnumbered q) c
as_goes g c d q (Some w) = write_goes g c d q w c.phase

one_goes : (g : step.Ground) (c : Connection) (d : step.Desk) (q : Request) → JoinGoes c (joined_one g c d q)
unfolding joined_one
one_goes g c d q = as_goes g c d q (command q.ask)

all_goes : (g : step.Ground) (n : Option ℕ) (c : Connection) (d : step.Desk) (qs : List Request) → JoinGoes c (joined_all g n c d qs)
unfolding joined_all
all_goes g n c d [] = same_phase c c refl
all_goes g n c d (q ∷ qs) = either_joins (is_out n) (joined_so (closed true c) d) (taking q (joined_all g (less n) (joined_one g c d q).connection (joined_one g c d q).desk qs)) c (shut true c c)
    (then_goes c (joined_one g c d q).connection (joined_all g (less n) (joined_one g c d q).connection (joined_one g c d q).desk qs).connection (one_goes g c d q) (all_goes g (less n) (joined_one g c d q).connection (joined_one g c d q).desk qs))

-- ---- a member that doesn't lead appends nothing

abbrev TakesNone : step.Ground → step.Desk → step.Desk → Type 0
TakesNone g d d' = g.leads ≡ false → d'.bodies ≡ d.bodies

either_none : (b : Bool) (x y : Joined) (g : step.Ground) (d : step.Desk) → TakesNone g d x.desk → TakesNone g d y.desk → TakesNone g d (if b then x else y).desk
either_none true x y g d p q = p
either_none false x y g d p q = q

handed_by : (l : Bool) (g : step.Ground) (d e : step.Desk) (b : Body) → l ≡ false → (if l then e else record d { forwards = d.forwards ++ b ∷ [] }).bodies ≡ d.bodies
handed_by true g d e b l = no true l refl
handed_by false g d e b l = refl

pub handed_none : (g : step.Ground) (d : step.Desk) (b : Body) → TakesNone g d (handed g d b)
unfolding handed
handed_none g d b l = handed_by g.leads g d (proposed g.term g.now d b) b l

write_none : (g : step.Ground) (c : Connection) (d : step.Desk) (q : Request) (w : Cmd) (p : Phase) → TakesNone g d (joined_write g c d q w p).desk
write_none g c d q w phase.Fresh = λ l. refl
write_none g c d q w (phase.Connecting ro) = λ l. refl
write_none g c d q w (phase.Live s e n) = either_none (is_led g d && nat_le n last_number) (joined_so (joined (numbered q n g.term) c) (handed g d (body.Write s e n w))) (joined_so (joined (unnumbered q) c) d) g d (handed_none g d (body.Write s e n w)) (λ l. refl)
write_none g c d q w (phase.Closing l) = λ l. refl

as_none : (g : step.Ground) (c : Connection) (d : step.Desk) (q : Request) (o : Option Cmd) → TakesNone g d (joined_as g c d q o).desk
as_none g c d q None = λ l. refl
as_none g c d q (Some w) = write_none g c d q w c.phase

one_none : (g : step.Ground) (c : Connection) (d : step.Desk) (q : Request) → TakesNone g d (joined_one g c d q).desk
unfolding joined_one
one_none g c d q = as_none g c d q (command q.ask)

all_none : (g : step.Ground) (n : Option ℕ) (c : Connection) (d : step.Desk) (qs : List Request) → TakesNone g d (joined_all g n c d qs).desk
unfolding joined_all
all_none g n c d [] = λ l. refl
all_none g n c d (q ∷ qs) = either_none (is_out n) (joined_so (closed true c) d) (taking q (joined_all g (less n) (joined_one g c d q).connection (joined_one g c d q).desk qs)) g d (λ l. refl)
    (λ l. all_none g (less n) (joined_one g c d q).connection (joined_one g c d q).desk qs l ∙ one_none g c d q l)

-- ---- what can be answered is

module _ (s : State) (k : ℕ) where
  abbrev next : Option ℕ → Connection → Waiting → List Waiting → Answer → Settled
  next n c w q a = settled s k (less n) a.watches (put_answer s.applied w.request a c) q

  abbrev turn : Option Answer → Bool → Option ℕ → List Watch → Connection → Waiting → List Waiting → Settled
  turn o b n ws c w q = settled_by o b (settled_so (with_queue (w ∷ q) c) ws) (settled_so (closed true c) ws) (goes_on s c w (next n c w q))

  last_goes : (b : Bool) (c x : Connection) (ws : List Watch) (r : Settled) → GoesOn c r.connection → GoesOn c (if b then settled_so (closed false x) ws else r).connection
  last_goes true c x ws r h = shut false c x
  last_goes false c x ws r h = h

  turn_goes : (o : Option Answer) (b : Bool) (n : Option ℕ) (ws : List Watch) (c : Connection) (w : Waiting) (q : List Waiting) → ((a : Answer) → GoesOn c (next n c w q a).connection) → GoesOn c (turn o b n ws c w q).connection
  turn_goes None b n ws c w q h = same_phase c (with_queue (w ∷ q) c) refl
  turn_goes (Some a) true n ws c w q h = shut true c c
  turn_goes (Some a) false n ws c w q h = last_goes (is_end w) c (put_answer s.applied w.request a c) a.watches (next n c w q a) (h a)

  pub settled_goes : (n : Option ℕ) (ws : List Watch) (c d : Connection) (q : List Waiting) → d.phase ≡ c.phase → GoesOn c (settled s k n ws d q).connection
  unfolding settled
  settled_goes n ws c d [] e = same_phase c (with_queue [] d) e
  settled_goes n ws c d (w ∷ q) e = then_goes c d _ (same_phase c d e)
      (turn_goes (answer_of s (session_in d.phase) k ws w) (is_out n) n ws d w q (λ a. settled_goes (less n) a.watches d (put_answer s.applied w.request a d) q refl))

  -- the watches of the others stay
  abbrev IsOwn : List Watch → List Watch → Type 0
  IsOwn ws vs = dropped vs k ≡ dropped ws k

  last_own : (b : Bool) (x : Connection) (ws vs : List Watch) (r : Settled) → IsOwn ws vs → IsOwn ws r.watches → IsOwn ws (if b then settled_so (closed false x) vs else r).watches
  last_own true x ws vs r h i = h
  last_own false x ws vs r h i = i

  turn_own : (o : Option Answer) (b : Bool) (n : Option ℕ) (ws : List Watch) (c : Connection) (w : Waiting) (q : List Waiting) → answer_of s (session_in c.phase) k ws w ≡ o → ((a : Answer) → IsOwn a.watches (next n c w q a).watches) → IsOwn ws (turn o b n ws c w q).watches
  turn_own None b n ws c w q e h = refl
  turn_own (Some a) true n ws c w q e h = refl
  turn_own (Some a) false n ws c w q e h =
      let mine : IsOwn ws a.watches = answer-own s (session_in c.phase) k ws w a e in
      last_own (is_end w) (put_answer s.applied w.request a c) ws a.watches (next n c w q a) mine (h a ∙ mine)

  pub settled_own : (n : Option ℕ) (ws : List Watch) (c : Connection) (q : List Waiting) → IsOwn ws (settled s k n ws c q).watches
  unfolding settled
  settled_own n ws c [] = refl
  settled_own n ws c (w ∷ q) = turn_own (answer_of s (session_in c.phase) k ws w) (is_out n) n ws c w q refl (λ a. settled_own (less n) a.watches (put_answer s.applied w.request a c) q)

end_goes : (e : FedEnd) (c : Connection) → GoesOn c (ended_by e c)
end_goes ends.Ok c = same_phase c c refl
end_goes (ends.Word w) c = same_phase c c refl
end_goes (ends.Bad at) c = either_goes (is_over c.phase) c c (closed false c) (same_phase c c refl) (shut false c c)

module _ (g : step.Ground) (luck : Luck) (k : ℕ) (ws : List Watch) (c : Connection) (d : step.Desk) (f : Fed) where
  abbrev behind : Connection
  behind = (joined_all g luck.requests c d f.requests).connection

  pub served_goes : GoesOn c (served g luck k ws c d f).connection
  unfolding served
  served_goes = then_goes c (settled g.state k luck.answers ws behind behind.queue).connection (ended_by f.end (settled g.state k luck.answers ws behind behind.queue).connection)
      (then_goes c behind (settled g.state k luck.answers ws behind behind.queue).connection (all_goes g luck.requests c d f.requests) (settled_goes g.state k luck.answers ws behind behind behind.queue refl))
      (end_goes f.end (settled g.state k luck.answers ws behind behind.queue).connection)

  pub served_own : dropped (served g luck k ws c d f).watches k ≡ dropped ws k
  unfolding served
  served_own = settled_own g.state k luck.answers ws behind behind.queue

  pub served_none : g.leads ≡ false → (served g luck k ws c d f).desk.bodies ≡ d.bodies
  unfolding served
  served_none = all_none g luck.requests c d f.requests

-- ---- by the phase

-- what becomes of a connection that is served, of the watches of the others, and of the bodies where it doesn't lead
pub record Lasts (g : step.Ground) (k : ℕ) (ws : List Watch) (c : Connection) (d : step.Desk) (w : Served) : Type 0 where
  pub goes : GoesOn c w.connection
  pub own : dropped w.watches k ≡ dropped ws k
  pub none : g.leads ≡ false → w.desk.bodies ≡ d.bodies

either_lasts : (b : Bool) (x y : Served) (g : step.Ground) (k : ℕ) (ws : List Watch) (c : Connection) (d : step.Desk) → Lasts g k ws c d x → Lasts g k ws c d y → Lasts g k ws c d (if b then x else y)
either_lasts true x y g k ws c d p q = p
either_lasts false x y g k ws c d p q = q

shut_lasts : (l : Bool) (g : step.Ground) (k : ℕ) (ws : List Watch) (c e : Connection) (d : step.Desk) → Lasts g k ws c d (served_so (closed l e) d ws)
shut_lasts l g k ws c e d = record { goes = shut l c e; own = refl; none = λ f. refl }

stay_lasts : (g : step.Ground) (k : ℕ) (ws : List Watch) (c : Connection) (d : step.Desk) → Lasts g k ws c d (served_so c d ws)
stay_lasts g k ws c d = record { goes = same_phase c c refl; own = refl; none = λ f. refl }

connects_lasts : (g : step.Ground) (k : ℕ) (draw : List ℕ) (c : Connection) (d : step.Desk) (ws : List Watch) (q : ConnectRequest) → Lasts g k ws c d (connects g k draw c d ws q)
connects_lasts g k draw c d ws q = either_lasts (is_refused q) _ _ g k ws c d (record { goes = record { over = λ o. refl; session = λ o. no true o refl }; own = refl; none = λ f. refl })
    (either_lasts (is_led g d) _ _ g k ws c d (record { goes = same_phase c c refl; own = refl; none = handed_none g d (opening (origin g k) draw q) }) (shut_lasts false g k ws c c d))

first_lasts : (g : step.Ground) (k : ℕ) (draw : List ℕ) (text : List ℕ → List ℕ) (c : Connection) (d : step.Desk) (ws : List Watch) (o : Option ConnectRequest) (e : FedEnd) → Lasts g k ws c d (first_served g k draw text c d ws o e)
first_lasts g k draw text c d ws (Some q) e = connects_lasts g k draw c d ws q
first_lasts g k draw text c d ws None ends.Ok = stay_lasts g k ws c d
first_lasts g k draw text c d ws None (ends.Bad at) = shut_lasts false g k ws c c d
first_lasts g k draw text c d ws None (ends.Word w) = shut_lasts false g k ws c (conn.put (text w) c) d

as_lasts : (g : step.Ground) (luck : Luck) (k : ℕ) (draw : List ℕ) (text : List ℕ → List ℕ) (d : step.Desk) (ws : List Watch) (p : Phase) (c : Connection) (f : Fed) → Lasts g k ws c d (served_as g luck k draw text d ws p c f)
as_lasts g luck k draw text d ws phase.Fresh c f = first_lasts g k draw text c d ws f.connect f.end
as_lasts g luck k draw text d ws (phase.Connecting ro) c f = first_lasts g k draw text c d ws f.connect f.end
as_lasts g luck k draw text d ws (phase.Live s e n) c f = record { goes = served_goes g luck k ws c d f; own = served_own g luck k ws c d f; none = served_none g luck k ws c d f }
as_lasts g luck k draw text d ws (phase.Closing lost) c f = first_lasts g k draw text c d ws f.connect f.end

-- a connection that is fed goes on
first_fed : (c w : Connection) (f : First) → c.phase ≡ phase.Fresh → w.phase ≡ c.phase → GoesOn c (fed_first w f).0
first_fed c w firsts.Part e same = same_phase c w same
first_fed c w firsts.Wrong e same = same_phase c _ same
first_fed c w (firsts.Word x) e same = same_phase c _ same
first_fed c w (firsts.Connect q n) e same = record { over = λ o. no (is_over c.phase) (ap is_over e) o; session = λ o. sym (ap served_by e) }

fed_as_goes : (p : Phase) (c : Connection) (bytes : List ℕ) → c.phase ≡ p → GoesOn c (fed_as p c bytes).0
fed_as_goes phase.Fresh c bytes e = first_fed c (with_piece c bytes) _ e refl
fed_as_goes (phase.Connecting ro) c bytes e = same_phase c _ refl
fed_as_goes (phase.Live s f n) c bytes e = same_phase c _ refl
fed_as_goes (phase.Closing lost) c bytes e = same_phase c c refl

pub fed_goes : (c : Connection) (bytes : List ℕ) → GoesOn c (fed c bytes).0
unfolding fed
fed_goes c bytes = fed_as_goes c.phase c bytes refl

pub serves_lasts : (g : step.Ground) (luck : Luck) (k : ℕ) (draw : List ℕ) (text : List ℕ → List ℕ) (d : step.Desk) (ws : List Watch) (c : Connection) (bytes : List ℕ) → Lasts g k ws c d (serves g luck k draw text d ws c bytes)
unfolding serves
serves_lasts g luck k draw text d ws c bytes =
    let l = as_lasts g luck k draw text d ws c.phase (fed c bytes).0 (fed c bytes).1 in
    record { goes = then_goes c (fed c bytes).0 _ (fed_goes c bytes) l.goes; own = l.own; none = l.none }

-- ---- the watches of a connection that is given up go

abbrev conn_of : Watch → ℕ
conn_of w = w.conn

module _ (m : Seats) (k : ℕ) (d : Seat) where
  abbrev new : Seats
  new = map.insert m k d

  here : map.get new k ≡ Some d
  here = get-put m k d k ∙ ap (λ b. cond b (Some d) (map.get m k)) (nat_eq_equiv.refl k)

  elsewhere : (q : ℕ) → nat_eq q k ≡ false → map.get new q ≡ map.get m q
  elsewhere q e = get-put m k d q ∙ ap (λ b. cond b (Some d) (map.get m q)) (nat_eq_equiv.symm k q ∙ e)

  -- those of the others are kept
  kept_dropped : (ws : List Watch) → AreKept m ws → AreKept m (dropped ws k)
  kept_dropped [] h = tt
  kept_dropped (w ∷ ws) h = at (nat_eq w.conn k) (kept_dropped ws h.1) where
    at : (b : Bool) → AreKept m (dropped ws k) → AreKept m (cond (not b) (w ∷ dropped ws k) (dropped ws k))
    at true rest = rest
    at false rest = (h.0, rest)

  but_one : (vs : List Watch) → AreKept m (dropped vs k) → AreKeptBut (k ∷ []) new vs
  but_one [] h = tt
  but_one (w ∷ vs) h = at (nat_eq w.conn k) refl h (but_one vs) where
    any_true : (b : Bool) → (b || true) ≡ true
    any_true true = refl
    any_true false = refl

    at : (b : Bool) → nat_eq w.conn k ≡ b → AreKept m (cond (not b) (w ∷ dropped vs k) (dropped vs k)) → (AreKept m (dropped vs k) → AreKeptBut (k ∷ []) new vs) → AreKeptBut (k ∷ []) new (w ∷ vs)
    at true e i rest = (ap (λ b. keeps_watches (map.get new w.conn) || (b || false)) e ∙ any_true (keeps_watches (map.get new w.conn)), rest i)
    at false e i rest = (ap (λ b. b || (nat_eq w.conn k || false)) (ap keeps_watches (elsewhere w.conn e) ∙ i.0), rest i.1)

  turned : (p : Phase) (vs : List Watch) → kept_watches k p vs ≡ turn_watches (not (is_lost p)) k vs
  turned p vs = by (is_lost p) where
    by : (l : Bool) → (if l then dropped vs k else vs) ≡ turn_watches (not l) k vs
    by true = refl
    by false = refl

  pub swept_so : (ws vs : List Watch) → AreKept m ws → dropped vs k ≡ dropped ws k → kept_watches k d.connection.phase vs ≡ swept new vs
  swept_so ws vs h own =
      let all = but_one vs (subst (AreKept m) (sym own) (kept_dropped ws h)) in
      let after = kept_watches k d.connection.phase vs in
      let is : after ≡ turn_watches (keeps_watches (map.get new k)) k vs = turned d.connection.phase vs ∙ ap (λ o. turn_watches (keeps_watches o) k vs) (sym here) in
      walk_ends new [] after vs refl (walks_on new k [] (k ∷ []) vs vs after refl is (refl, all))

kept_swept : (m : Seats) (vs : List Watch) → AreKept m (swept m vs)
kept_swept m [] = tt
kept_swept m (w ∷ vs) = at (keeps_watches (map.get m w.conn)) refl (kept_swept m vs) where
  at : (b : Bool) → keeps_watches (map.get m w.conn) ≡ b → AreKept m (swept m vs) → AreKept m (cond b (w ∷ swept m vs) (swept m vs))
  at true e rest = (e, rest)
  at false e rest = rest

pub swept_kept : (m : Seats) (k : ℕ) (d : Seat) (ws vs : List Watch) → AreKept m ws → dropped vs k ≡ dropped ws k → AreKept (map.insert m k d) (kept_watches k d.connection.phase vs)
swept_kept m k d ws vs h own = subst (AreKept (map.insert m k d)) (sym (swept_so m k d ws vs h own)) (kept_swept (map.insert m k d) vs)
