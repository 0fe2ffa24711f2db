-- What the bytes of a connection do to its queue.
use Rattle.std.proofs.Common.{◌≡◌, ℕ, Bool, true, false, ◌&&◌, ◌||◌, List, [], ◌∷◌, ◌++◌, Option, Some, None, is_some, refl, ap, sym, ◌∙◌, append-nil}
use Rattle.std.proofs.lemmas.List.{map-append}
use Rattle.std.specs.Prelude.{if◌then◌else◌, ◌==◌}
use Rattle.kp_model.specs.declared.command.Cmd.{Cmd}
use Rattle.kp_model.specs.declared.session.Session.{Session}
use Rattle.kp_ask.specs.Asks.{command}
use Rattle.kp_wire.specs.declared.connect.ConnectRequest.{ConnectRequest}
use Rattle.kp_wire.specs.declared.request.Request.{Request}
use Rattle.kp_watch.specs.declared.watch.Watch.{Watch}
use Rattle.kp_conn.specs.declared.fed.Fed.{Fed}
use Rattle.kp_conn.specs.declared.fed.FedEnd.{FedEnd}
use Rattle.kp_conn.specs.declared.fed.FedEnd.TheVariants as ends
use Rattle.kp_conn.specs.declared.first.First.{First}
use Rattle.kp_conn.specs.declared.first.First.TheVariants as firsts
use Rattle.kp_conn.specs.declared.phase.Phase.{Phase}
use Rattle.kp_conn.specs.declared.phase.Phase.TheVariants as phase
use Rattle.kp_conn.specs.declared.waiting.Mark.{Mark}
use Rattle.kp_conn.specs.declared.waiting.Waiting.{Waiting}
use Rattle.kp_conn.specs.Connection.{Connection, closed, joined, numbered as renumbered, put, is_over}
use Rattle.kp_conn.specs.Packets.{connect_packet}
use Rattle.kp_conn.specs.Fed.{fed, fed_as, fed_first, with_piece}
use Rattle.kp_step.specs.Choices.{Luck, is_out, less}
use Rattle.kp_step.specs.Settling.{Told, settled}
use Rattle.kp_step.specs.Handing.{Ground, Desk, Joined, Served, joined_so, joined_write, joined_as, joined_one, joined_all, taking, unnumbered, numbered, served, ended_by, is_refused, is_led, connects, first_served, served_as, serves, refusal, greeting, welcomed, greeted_as}
use Rattle.kp_step.specs.Runs.{requests_of, IsToldOn}
use Rattle.kp_step.proofs.Tables.{no}
use Rattle.kp_step.proofs.Parts.{part_of}
use Rattle.kp_step.proofs.Moving.{is_live, is_ending, is_bound, Moves, kept, still, shut, then_moves, then_told, then_kept}
use Rattle.kp_step.proofs.Settles.{settled-moves}

pub choose : {A : Type 0} (P : A → Type 0) (b : Bool) (x y : A) → P x → P y → P (if b then x else y)
choose P true x y p q = p
choose P false x y p q = q

-- ---- a request joins

-- no reply came yet
abbrev IsNew : Waiting → Type 0
IsNew w = w.reply ≡ None

new_front : (close : Bool) (w : Waiting) → IsNew w → (close && is_some w.reply) ≡ false
new_front true w e = ap is_some e
new_front false w e = refl

not_ending : (q : List Waiting) (w : Waiting) → IsNew w → is_ending (q ++ w ∷ []) ≡ false
not_ending [] w e = new_front _ w e
not_ending (v ∷ []) w e = refl
not_ending (v ∷ u ∷ q) w e = refl

still_live : (p : Phase) (m : Option Mark) → is_live p ≡ true → is_live (renumbered p m) ≡ true
still_live phase.Fresh m h = no false refl h
still_live (phase.Connecting ro) m h = no false refl h
still_live (phase.Live s e n) None h = refl
still_live (phase.Live s e n) (Some m) h = refl
still_live (phase.Closing lost) m h = no false refl h

live_open : (p : Phase) → is_live p ≡ true → is_over p ≡ false
live_open phase.Fresh h = refl
live_open (phase.Connecting ro) h = refl
live_open (phase.Live s e n) h = refl
live_open (phase.Closing lost) h = no false refl h

pub unbound : (o l e : Bool) → o ≡ false → e ≡ false → (o || (l && e)) ≡ false
unbound true l e p q = p
unbound false true e p q = q
unbound false false e p q = refl

-- live, and more than the end of the session waits
pub record IsOpen (c : Connection) : Type 0 where
  pub live : is_live c.phase ≡ true
  pub more : is_ending c.queue ≡ false

open_bound : (c : Connection) → IsOpen c → is_bound c ≡ false
unfolding is_bound
open_bound c h = unbound (is_over c.phase) (is_live c.phase) (is_ending c.queue) (live_open c.phase h.live) h.more

join_open : (w : Waiting) (c : Connection) → IsNew w → IsOpen c → IsOpen (joined w c)
join_open w c e h = record { live = still_live c.phase w.mark h.live; more = not_ending c.queue w e }

join_moves : {P : Told → Type 0} (w : Waiting) (c : Connection) → IsOpen c → Moves P c [] (w.request ∷ []) (joined w c)
join_moves w c h proper = record {
  proper = λ dead. no _ dead (still_live c.phase w.mark h.live);
  part = part_of (requests_of (c.queue ++ w ∷ [])) (requests_of c.queue ++ w.request ∷ []) (map-append (λ (v : Waiting). v.request) c.queue (w ∷ []));
  all = λ b. sym (map-append (λ (v : Waiting). v.request) c.queue (w ∷ []));
  bound = λ b. no _ (open_bound c h) b;
  tells = tt;
}

-- one request that joined
record HasJoined (P : Told → Type 0) (c : Connection) (q : Request) (j : Joined) : Type 0 where
  pub open_ : IsOpen j.connection
  pub moves : Moves P c [] (q ∷ []) j.connection

join_so : {P : Told → Type 0} (w : Waiting) (c : Connection) (d : Desk) → IsNew w → IsOpen c → HasJoined P c w.request (joined_so (joined w c) d)
join_so w c d e h = record { open_ = join_open w c e h; moves = join_moves w c h }

write_joins : {P : Told → Type 0} (g : Ground) (c : Connection) (d : Desk) (q : Request) (w : Cmd) (p : Phase) → IsOpen c → HasJoined P c q (joined_write g c d q w p)
write_joins g c d q w phase.Fresh h = join_so (unnumbered q) c d refl h
write_joins g c d q w (phase.Connecting ro) h = join_so (unnumbered q) c d refl h
write_joins {P = P} g c d q w (phase.Live s e n) h = choose (HasJoined P c q) _ _ _ (join_so (numbered q n g.term) c _ refl h) (join_so (unnumbered q) c d refl h)
write_joins g c d q w (phase.Closing lost) h = join_so (unnumbered q) c d refl h

as_joins : {P : Told → Type 0} (g : Ground) (c : Connection) (d : Desk) (q : Request) (o : Option Cmd) → IsOpen c → HasJoined P c q (joined_as g c d q o)
as_joins g c d q None h = join_so (unnumbered q) c d refl h
as_joins g c d q (Some w) h = write_joins g c d q w c.phase h

one_joins : {P : Told → Type 0} (g : Ground) (c : Connection) (d : Desk) (q : Request) → IsOpen c → HasJoined P c q (joined_one g c d q)
unfolding joined_one
one_joins g c d q h = as_joins g c d q (command q.ask) h

-- ---- all requests of a piece

abbrev JoinMoves : (Told → Type 0) → Connection → Joined → Type 0
JoinMoves P c j = Moves P c [] j.took j.connection

all_join : (P : Told → Type 0) (g : Ground) (n : Option ℕ) (c : Connection) (d : Desk) (qs : List Request) → IsOpen c → JoinMoves P c (joined_all g n c d qs)
unfolding joined_all
all_join P g n c d [] h = still c
all_join P g n c d (q ∷ qs) h = let j : HasJoined P c q (joined_one g c d q) = one_joins g c d q h in choose (JoinMoves P c) (is_out n) (joined_so (closed true c) d) (taking q (joined_all g (less n) (joined_one g c d q).connection (joined_one g c d q).desk qs))
    (shut true c c [])
    (then_moves c (joined_one g c d q).connection (joined_all g (less n) (joined_one g c d q).connection (joined_one g c d q).desk qs).connection [] [] (q ∷ []) (joined_all g (less n) (joined_one g c d q).connection (joined_one g c d q).desk qs).took
    j.moves (all_join P g (less n) (joined_one g c d q).connection (joined_one g c d q).desk qs j.open_))

end_moves : {P : Told → Type 0} (e : FedEnd) (c : Connection) → Moves P c [] [] (ended_by e c)
end_moves ends.Ok c = still c
end_moves (ends.Word w) c = still c
end_moves {P = P} (ends.Bad at) c = choose (Moves P c [] []) (is_over c.phase) c (closed false c) (still c) (shut false c c [])

abbrev pub ServedMoves : Ground → ℕ → Connection → Served → Type 0
ServedMoves g k c w = Moves (λ t. IsToldOn g.state k t) c w.told w.took w.connection

pub served-moves : (g : Ground) (luck : Luck) (k : ℕ) (ws : List Watch) (c : Connection) (d : Desk) (f : Fed) → IsOpen c → ServedMoves g k c (served g luck k ws c d f)
unfolding served
served-moves g luck k ws c d f h = let j = joined_all g luck.requests c d f.requests in let s = settled g.state k luck.answers ws j.connection j.connection.queue in
    then_kept c s.connection (ended_by f.end s.connection) s.told j.took (then_told c j.connection s.connection s.told j.took (all_join (λ t. IsToldOn g.state k t) g luck.requests c d f.requests h) (settled-moves g.state k luck.answers ws j.connection)) (end_moves f.end s.connection)

-- ---- bytes come

-- the queue is as it was, and the phase goes on
pub record IsFed (c : Connection) (p : Phase) (b : Connection) : Type 0 where
  pub queue : b.queue ≡ c.queue
  pub over : is_over b.phase ≡ is_over p
  pub live : is_live b.phase ≡ is_live p

fed_first_is : (c w : Connection) (f : First) → w.queue ≡ c.queue → w.phase ≡ phase.Fresh → IsFed c phase.Fresh (fed_first w f).0
fed_first_is c w firsts.Part q p = record { queue = q; over = ap is_over p; live = ap is_live p }
fed_first_is c w firsts.Wrong q p = record { queue = q; over = ap is_over p; live = ap is_live p }
fed_first_is c w (firsts.Word t) q p = record { queue = q; over = ap is_over p; live = ap is_live p }
fed_first_is c w (firsts.Connect r n) q p = record { queue = q; over = refl; live = refl }

fed_is : (p : Phase) (c : Connection) (piece : List ℕ) → c.phase ≡ p → IsFed c p (fed_as p c piece).0
fed_is phase.Fresh c piece e = fed_first_is c (with_piece c piece) _ refl e
fed_is (phase.Connecting ro) c piece e = record { queue = refl; over = ap is_over e; live = ap is_live e }
fed_is (phase.Live s f n) c piece e = record { queue = refl; over = ap is_over e; live = ap is_live e }
fed_is (phase.Closing lost) c piece e = record { queue = refl; over = ap is_over e; live = ap is_live e }

pub fed_so : (c : Connection) (piece : List ℕ) → IsFed c c.phase (fed c piece).0
unfolding fed
fed_so c piece = fed_is c.phase c piece refl

fed_moves : {P : Told → Type 0} (c : Connection) (piece : List ℕ) → Moves P c [] [] (fed c piece).0
fed_moves c piece = let h = fed_so c piece in kept c (fed c piece).0 h.queue h.over h.live

fed_open : (c : Connection) (piece : List ℕ) → IsOpen c → IsOpen (fed c piece).0
fed_open c piece o = let h = fed_so c piece in record { live = h.live ∙ o.live; more = ap is_ending h.queue ∙ o.more }

connect_moves : (g : Ground) (k : ℕ) (draw : List ℕ) (c : Connection) (d : Desk) (ws : List Watch) (q : ConnectRequest) → ServedMoves g k c (connects g k draw c d ws q)
connect_moves g k draw c d ws q = choose (ServedMoves g k c) (is_refused q) _ _ (shut false c (put (connect_packet (refusal (is_some q.read_only))) c) []) (choose (ServedMoves g k c) (is_led g d) _ _ (still c) (shut false c c []))

first_moves : (g : Ground) (k : ℕ) (draw : List ℕ) (text : List ℕ → List ℕ) (c : Connection) (d : Desk) (ws : List Watch) (o : Option ConnectRequest) (e : FedEnd) → ServedMoves g k c (first_served g k draw text c d ws o e)
first_moves g k draw text c d ws (Some q) e = connect_moves g k draw c d ws q
first_moves g k draw text c d ws None ends.Ok = still c
first_moves g k draw text c d ws None (ends.Bad at) = shut false c c []
first_moves g k draw text c d ws None (ends.Word w) = shut false c (put (text w) c) []

as_moves : (g : Ground) (luck : Luck) (k : ℕ) (draw : List ℕ) (text : List ℕ → List ℕ) (d : Desk) (ws : List Watch) (p : Phase) (c : Connection) (f : Fed) → (is_live p ≡ true → IsOpen c) → ServedMoves g k c (served_as g luck k draw text d ws p c f)
as_moves g luck k draw text d ws phase.Fresh c f h = first_moves g k draw text c d ws f.connect f.end
as_moves g luck k draw text d ws (phase.Connecting ro) c f h = first_moves g k draw text c d ws f.connect f.end
as_moves g luck k draw text d ws (phase.Live s e n) c f h = served-moves g luck k ws c d f (h refl)
as_moves g luck k draw text d ws (phase.Closing lost) c f h = first_moves g k draw text c d ws f.connect f.end

-- of a connection of which more than the end of its session waits
pub serves-moves : (g : Ground) (luck : Luck) (k : ℕ) (draw : List ℕ) (text : List ℕ → List ℕ) (d : Desk) (ws : List Watch) (c : Connection) (bytes : List ℕ) → is_ending c.queue ≡ false → ServedMoves g k c (serves g luck k draw text d ws c bytes)
unfolding serves
serves-moves g luck k draw text d ws c bytes more = let w = served_as g luck k draw text d ws c.phase (fed c bytes).0 (fed c bytes).1 in
    then_moves c (fed c bytes).0 w.connection [] w.told [] w.took (fed_moves c bytes) (as_moves g luck k draw text d ws c.phase (fed c bytes).0 (fed c bytes).1 (λ live. fed_open c bytes (record { live = live; more = more })))

-- ---- the connection is live, and takes what it kept

-- one that is over takes nothing
closed_moves : (g : Ground) (luck : Luck) (k : ℕ) (ws : List Watch) (d : Desk) (c b : Connection) → ServedMoves g k c (welcomed g luck k ws d (closed false b))
unfolding fed served joined_all settled
closed_moves g luck k ws d c b = shut false c b []

-- a connection with an empty queue goes live
open_moves : {P : Told → Type 0} (c b : Connection) → b.queue ≡ c.queue → is_live b.phase ≡ true → is_over c.phase ≡ false → c.queue ≡ [] → Moves P c [] [] b
unfolding is_bound
open_moves c b q l o e proper = record {
  proper = λ dead. no _ dead l;
  part = part_of (requests_of b.queue) (requests_of c.queue ++ []) (ap requests_of q ∙ sym (append-nil (requests_of c.queue)));
  all = λ h. append-nil (requests_of c.queue) ∙ ap requests_of (sym q);
  bound = λ h. no _ (unbound (is_over c.phase) (is_live c.phase) (is_ending c.queue) o (ap is_ending e)) h;
  tells = tt;
}

live_moves : (g : Ground) (luck : Luck) (k : ℕ) (ws : List Watch) (d : Desk) (c b : Connection) → b.queue ≡ c.queue → is_live b.phase ≡ true → is_over c.phase ≡ false → c.queue ≡ [] → is_live c.phase ≡ false → ServedMoves g k c (welcomed g luck k ws d b)
live_moves g luck k ws d c b q l o e dead = let h = fed_open b [] (record { live = l; more = ap is_ending (q ∙ e) }) in let w = welcomed g luck k ws d b in
    then_moves c b w.connection [] w.told [] w.took (open_moves c b q l o e) (then_moves b (fed b []).0 w.connection [] w.told [] w.took (fed_moves b []) (served-moves g luck k ws (fed b []).0 d (fed b []).1 h))

greet_by : (g : Ground) (luck : Luck) (k : ℕ) (ws : List Watch) (d : Desk) (c : Connection) (packet : List ℕ) (session epoch : ℕ) (b : Bool) → is_over c.phase ≡ false → is_live c.phase ≡ false
    → Moves (λ t. IsToldOn g.state k t) c (welcomed g luck k ws d (if b then closed false (put packet c) else record (put packet c) { phase = phase.Live session epoch 1 })).told
    (welcomed g luck k ws d (if b then closed false (put packet c) else record (put packet c) { phase = phase.Live session epoch 1 })).took
    (welcomed g luck k ws d (if b then closed false (put packet c) else record (put packet c) { phase = phase.Live session epoch 1 })).connection
greet_by g luck k ws d c packet session epoch true o l = closed_moves g luck k ws d c (put packet c)
greet_by g luck k ws d c packet session epoch false o l = λ proper. live_moves g luck k ws d c (record (put packet c) { phase = phase.Live session epoch 1 }) refl refl o (proper l) l proper

pub greet_moves : (g : Ground) (luck : Luck) (k : ℕ) (ws : List Watch) (d : Desk) (c : Connection) (ro : Bool) (id : ℕ) (x : Option Session) → is_over c.phase ≡ false → is_live c.phase ≡ false → ServedMoves g k c (greeted_as g luck k ws d c ro id x)
greet_moves g luck k ws d c ro id None o l = shut false c (put (connect_packet (refusal ro)) c) []
greet_moves g luck k ws d c ro id (Some x) o l = greet_by g luck k ws d c (connect_packet (greeting ro id x)) id x.epoch (id == 0) o l
