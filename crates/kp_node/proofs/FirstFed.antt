-- Bytes of a connection that isn't live make the step of its node.
use Rattle.std.proofs.Common.{◌≡◌, ℕ, ◌+◌, ◌-◌, ◌≤◌, ◌<◌, ◌^◌, Bool, true, false, cond, List, [], ◌∷◌, ◌++◌, length, Option, Some, None, refl, ap, sym, subst, ◌∙◌, append-nil, nat_eq, not, take, length-append, arith}
use Rattle.std.specs.Prelude.{map, Result, Ok, Err, OnOk, OnErr, if◌then◌else◌}
use Rattle.std.specs.Cmp.{nat_eq_equiv}
use Rattle.std.specs.FinMap as map
use Rattle.kp_model.specs.Limits.{last_number}
use Rattle.kp_model.specs.Store.{Store, last as last_of}
use Rattle.kp_entry.specs.Log.{last_index}
use Rattle.kp_raft.specs.declared.event.RaftEvent.TheVariants as raft
use Rattle.kp_raft.specs.declared.event.RaftOut.{RaftOut}
use Rattle.kp_raft.specs.Members.{Member}
use Rattle.kp_event.specs.declared.event.NodeEventKind.TheVariants as kind
use Rattle.kp_event.specs.declared.said.FedWord.TheVariants as fed_words
use Rattle.kp_event.specs.declared.said.Said.TheVariants as says
use Rattle.kp_snapshot.specs.Snapshots.{Snapshot}
use Rattle.kp_seats.specs.Seating.{Seating, holding, left}
use Rattle.kp_watch.specs.declared.watch.Watch.{Watch}
use Rattle.kp_conn.specs.declared.fed.FedEnd.{FedEnd}
use Rattle.kp_conn.specs.declared.fed.FedEnd.TheVariants as ends
use Rattle.kp_conn.specs.declared.first.First.{First as Frame}
use Rattle.kp_conn.specs.declared.first.First.TheVariants as frames
use Rattle.kp_conn.specs.declared.phase.Phase.{Phase}
use Rattle.kp_conn.specs.declared.phase.Phase.TheVariants as phase
use Rattle.kp_conn.specs.Connection.{Connection, closed, put, taken_back, is_over, is_lost}
use Rattle.kp_conn.specs.Fed.{fed, fed_as, fed_first, first, with_piece}
use Rattle.kp_step.specs.declared.seat.Seat.{Seat}
use Rattle.kp_step.specs.Choices.{Choices, Luck}
use Rattle.kp_step.specs.Node.{Node, Seats}
use Rattle.kp_step.specs.Settling.{is_at_rest}
use Rattle.kp_step.specs.Tables.{seated}
use Rattle.kp_step.specs.Handing as step
use Rattle.kp_step.specs.Handing.{Served, served_so, served_as, serves, first_served, ground, desk}
use Rattle.kp_step.specs.Asking.{Words, Input, idle, asks, reacted, installed, client_input, client_served, propose_if, is_csnp}
use Rattle.kp_step.specs.Runs.{IsResting}
use Rattle.kp_step.specs.Step.{Stepped, Turn, turn, together, client_turn, fed_turn, hears_client, node_behind, standing_of, swept, keeps_watches, filled}
use Rattle.kp_step.proofs.Resting.{insert_quiet}
use Rattle.kp_node.specs.declared.client_events.Read.{Read}
use Rattle.kp_node.specs.declared.client_first.Start.{Start}
use Rattle.kp_node.specs.declared.client_first.Start.TheVariants as start
use Rattle.kp_node.specs.declared.first_bytes.First.{First}
use Rattle.kp_node.specs.declared.first_bytes.First.TheVariants as firsts
use Rattle.kp_node.specs.declared.joining.Ground.{Ground}
use Rattle.kp_node.specs.declared.outcome.Outcome.{Outcome as Given}
use Rattle.kp_node.specs.declared.taking.Taken.{Taken}
use Rattle.kp_node.specs.Changing.{idle_among, ready_among, lost_among}
use Rattle.kp_node.specs.ClientFirst.{Starts, with_put, with_unput, with_closed, given_image, word_read}
use Rattle.kp_node.specs.Clients.{client_at, client_step, ground_of, TakesAt, IsFed, given_fed}
use Rattle.kp_node.specs.Early.{IsFirstAt, IsWordAt, FirstAt, conn_changed, changed_by}
use Rattle.kp_node.specs.FirstBytes.{IsFirst, is_word}
use Rattle.kp_node.specs.Holding.{Holds, AreKept, served_by, served_at}
use Rattle.kp_node.specs.Joining.{ground_in, desk_of}
use Rattle.kp_node.specs.Parts.{Parts, node_of}
use Rattle.kp_node.specs.Proposing.{AtDesk}
use Rattle.kp_node.specs.Serving.{HandsOver}
use Rattle.kp_node.specs.Steps.{images, Steps, Reacts}
use Rattle.kp_node.specs.TakingBytes.{taken, Takes, seated_at, end_in, heard_by, spoken_by}
use Rattle.kp_node.specs.Timing.{compacted, base_image}
use Rattle.kp_node.proofs.Fed.{fed_holds, fed_steps, lost_here, ready_here, index_now}
use Rattle.kp_node.proofs.Firsts.{sends_none}
use Rattle.kp_node.proofs.Maps.{no, same, get-put, served_put, kept_put, kept_all}
use Rattle.kp_node.proofs.Greets.{held_still}
use Rattle.kp_node.proofs.Sent.{compact_image, compact_plain}

-- ---- one connection is changed

module _ (t : Seating Seat) (k : ℕ) where
  pub held_at : (s : Seat) → map.get (holding t k s).seats k ≡ Some s
  held_at s = get-put t.seats k s k ∙ ap (λ b. cond b (Some s) (map.get t.seats k)) (nat_eq_equiv.refl k)

  held_twice : (s d : Seat) → holding (holding t k s) k d ≡ holding t k d
  held_twice s d = ap (λ m. record t { seats = m }) (same (map.insert (map.insert t.seats k s) k d) (map.insert t.seats k d) (λ q.
      get-put (map.insert t.seats k s) k d q ∙ ap (cond (nat_eq k q) (Some d)) (get-put t.seats k s q) ∙ over (nat_eq k q) d s (map.get t.seats q) ∙ sym (get-put t.seats k d q)))
    where
      over : (b : Bool) (d s : Seat) (o : Option Seat) → cond b (Some d) (cond b (Some s) o) ≡ cond b (Some d) o
      over true d s o = refl
      over false d s o = refl

  pub changed_is : (f : Connection → Connection) (s : Seat) → map.get t.seats k ≡ Some s → conn_changed f t k ≡ holding t k (seated s (f s.connection))
  changed_is f s there = ap (changed_by f t k) there

  pub changed_again : (f g : Connection → Connection) (s : Seat) → map.get t.seats k ≡ Some s → conn_changed g (conn_changed f t k) k ≡ holding t k (seated s (g (f s.connection)))
  changed_again f g s there =
      ap (λ z. conn_changed g z k) (changed_is f s there)
      ∙ ap (changed_by g (holding t k (seated s (f s.connection))) k) (held_at (seated s (f s.connection)))
      ∙ held_twice (seated s (f s.connection)) (seated s (g (f s.connection)))

-- a connection of the seating that isn't live
pub record Early (t : Seating Seat) (k : ℕ) : Type 0 where
  pub seat : Seat
  pub there : map.get t.seats k ≡ Some seat
  pub early : IsFirst seat.connection.phase

early_so : (t : Seating Seat) (k : ℕ) (o : Option Seat) → map.get t.seats k ≡ o → IsFirstAt o → Early t k
early_so t k None e h = absurd h
early_so t k (Some s) e h = record { seat = s; there = e; early = h }

pub early_in : (t : Seating Seat) (k : ℕ) → IsFirstAt (map.get t.seats k) → Early t k
early_in t k h = early_so t k (map.get t.seats k) refl h

pub still_early : (f : Connection → Connection) → ((c : Connection) → (f c).phase ≡ c.phase) → (t : Seating Seat) (k : ℕ) → IsFirstAt (map.get t.seats k) → IsFirstAt (map.get (conn_changed f t k).seats k)
still_early f same t k h =
    let e = early_in t k h in
    subst IsFirstAt (sym (ap (λ (z : Seating Seat). map.get z.seats k) (changed_is t k f e.seat e.there) ∙ held_at t k (seated e.seat (f e.seat.connection)))) (subst IsFirst (sym (same e.seat.connection)) e.early)

early_kept : (p : Phase) → IsFirst p → is_lost p ≡ false
early_kept phase.Fresh h = refl
early_kept (phase.Connecting ro) h = refl
early_kept (phase.Live s e n) h = refl
early_kept (phase.Closing l) h = absurd h

early_open : (p : Phase) → IsFirst p → is_over p ≡ false
early_open phase.Fresh h = refl
early_open (phase.Connecting ro) h = refl
early_open (phase.Live s e n) h = refl
early_open (phase.Closing l) h = absurd h

-- the parts with another connection in its place
module _ (p : Parts) (h : Holds p) (k : ℕ) (s : Seat) (c : Connection) (there : map.get p.seating.seats k ≡ Some s) (quiet : is_at_rest c.queue ≡ true) (unlost : is_lost c.phase ≡ false) where
  holds_so : (t : Seating Seat) → t.seats ≡ map.insert p.seating.seats k (seated s c) → ((q : ℕ) → map.get t.sessions q ≡ served_at (map.get t.seats q)) → Holds (record p { seating = t })
  holds_so t are index = record {
    few = h.few;
    rest = subst (λ (m : Seats). (j : ℕ) → IsResting (map.get m j)) (sym are) (insert_quiet p.seating.seats k (seated s c) h.rest quiet);
    kept = subst (λ (m : Seats). AreKept m p.watches) (sym are) (kept_put (λ (w : Watch). w.conn) keeps_watches p.seating.seats k (seated s c) p.watches (ap (λ b. not b) unlost) h.kept);
    unapplied = h.unapplied;
    from = h.from;
    to = h.to;
    served = index;
    counted = h.counted;
  }

  pub put_holds : served_by c.phase ≡ served_by s.connection.phase → Holds (record p { seating = holding p.seating k (seated s c) })
  put_holds serves_same = holds_so (holding p.seating k (seated s c)) refl (served_put (λ o i. i ≡ served_at o) p.seating.seats p.seating.sessions k (seated s c) (h.served k ∙ ap served_at there ∙ sym serves_same) h.served)

-- as the code has it: the parts before are those of a node z
pub either_way : {A E : Type 0} (P Q X : Type 0) (r : Result A E) → OnOk r P → OnErr r Q → (P → X) → (Q → X) → X
either_way P Q X (Ok a) p q f g = f p
either_way P Q X (Err e) p q f g = g q

module _ (p z : Parts) (e : p ≡ z) (h : Holds p) (k : ℕ) (at : IsFirstAt (map.get z.seating.seats k)) where
  here : Early p.seating k
  here = early_in p.seating k (subst (λ (q : Parts). IsFirstAt (map.get q.seating.seats k)) (sym e) at)

  quiet_here : is_at_rest here.seat.connection.queue ≡ true
  quiet_here = subst IsResting here.there (h.rest k)

  pub changed_holds : (f : Connection → Connection) → ((c : Connection) → (f c).phase ≡ c.phase) → ((c : Connection) → (f c).queue ≡ c.queue) → (t : Seating Seat) → t ≡ conn_changed f p.seating k → Holds (record p { seating = t })
  changed_holds f phases queues t is =
      let c = f here.seat.connection in
      subst (λ (u : Seating Seat). Holds (record p { seating = u })) (sym (is ∙ changed_is p.seating k f here.seat here.there))
      (put_holds p h k here.seat c here.there (ap is_at_rest (queues here.seat.connection) ∙ quiet_here) (ap is_lost (phases here.seat.connection) ∙ early_kept here.seat.connection.phase here.early) (ap served_by (phases here.seat.connection)))

  pub still_holds : (t : Seating Seat) → t ≡ p.seating → Holds (record p { seating = t })
  still_holds t is = subst (λ (u : Seating Seat). Holds (record p { seating = u })) (sym is) h

  pub closed_holds : (t : Seating Seat) → t ≡ left (conn_changed (closed false) p.seating k) k → Holds (record p { seating = t })
  closed_holds t is =
      let s = here.seat in
      subst (λ (u : Seating Seat). Holds (record p { seating = u })) (sym (is ∙ ap (λ u. left u k) (changed_is p.seating k (closed false) s here.there)))
      (holds_so p h k s (closed false s.connection) here.there refl refl (left (holding p.seating k (seated s (closed false s.connection))) k) refl
      (index_now p.seating k s (closed false s.connection) here.there (record { over = λ o. refl; session = λ o. no true o refl }) h.served))

-- ---- the connection took them

module _ (p : Parts) (now k : ℕ) (bytes : List ℕ) (g : Ground) (m : Member) (x : Store) (t : Seating Seat) (idle : List ℕ) (f : First) (o : Taken) (r : Read)
    (is_ground : g ≡ ground_of p now) (is_idle : idle ≡ idle_among p.seating.seats (k ∷ []))
    (is : r ≡ record { taken = o; ready = ready_among t.seats idle; lost = length (lost_among t.seats (k ∷ [])) })
    (is_taken : f ≡ firsts.Taken o) (first_at : FirstAt g k bytes p.member p.store p.seating m x t f) where
  abbrev behind_it : Parts
  behind_it = record p { member = m; store = x; seating = t; events = p.events + 1 }

  took : FirstAt g k bytes p.member p.store p.seating m x t (firsts.Taken o)
  took = subst (FirstAt g k bytes p.member p.store p.seating m x t) is_taken first_at

  unheard : (q : Phase) → IsFirst q → (p.heard ≡ heard_by now p.store.state p.heard q) × (p.spoken ≡ spoken_by p.spoken q)
  unheard phase.Fresh h = (refl, refl)
  unheard (phase.Connecting ro) h = (refl, refl)
  unheard (phase.Live id e n) h = absurd h
  unheard (phase.Closing l) h = absurd h

  given : IsFirstAt (map.get p.seating.seats k) → (text : List ℕ → List ℕ) → IsFed now k text bytes p (record { taken = o; ready = ready_among t.seats idle; lost = length (lost_among t.seats (k ∷ [])) }) behind_it
  given at text =
      let a : TakesAt (ground_of p now) k text bytes p.member p.store p.watches p.seating m x p.watches t o = subst (λ z. TakesAt z k text bytes p.member p.store p.watches p.seating m x p.watches t o) is_ground (took.1 text p.watches) in
      let so = unheard a.was.connection.phase (subst IsFirstAt a.there at) in record {
        at = a;
        heard = so.0;
        spoken = so.1;
        boot = refl;
        events = refl;
        ready = ap (ready_among t.seats) is_idle;
        lost = refl;
      }

  given_so : IsFirstAt (map.get p.seating.seats k) → (text : List ℕ → List ℕ) → IsFed now k text bytes p r behind_it
  given_so at text = subst (λ q. IsFed now k text bytes p q behind_it) (sym is) (given at text)

  pub first_fed : (z : Parts) → p ≡ z → IsFirstAt (map.get z.seating.seats k) → Starts now k bytes z (start.Read r) behind_it
  first_fed z e at = (
    ap (λ (q : Read). is_word q.taken.end) is ∙ took.0,
    λ text. subst (λ q. IsFed now k text bytes q r behind_it) e (given_so (subst (λ (q : Parts). IsFirstAt (map.get q.seating.seats k)) (sym e) at) text),
  )

  pub first_fed_holds : (z : Parts) → p ≡ z → Holds p → z.events < 2 ^ 62 → IsFirstAt (map.get z.seating.seats k) → p.member.vars.commit ≤ last_index p.member.held.log → Holds behind_it
  first_fed_holds z e h few at low =
      fed_holds now k (λ w. []) bytes p behind_it r h low (given_so (subst (λ (q : Parts). IsFirstAt (map.get q.seating.seats k)) (sym e) at) (λ w. []))
      (subst (λ (q : Parts). q.events < 2 ^ 62) (sym e) few)

no_csnp : (e : FedEnd) → is_word e ≡ false → is_csnp e ≡ false
no_csnp ends.Ok h = refl
no_csnp (ends.Bad at) h = refl
no_csnp (ends.Word w) h = no true h refl

-- what was read makes the step
pub fed_given : (words : Words) (now k : ℕ) (bytes : List ℕ) (p x y : Parts) (r : Read) (o : Given) → p ≡ x → Holds p → p.member.vars.commit ≤ last_index p.member.held.log
    → (d : IsFed now k (words (node_of x)) bytes x r y) → is_csnp (end_in d.at.was.connection bytes) ≡ false → o ≡ given_fed r (standing_of (node_of y)) → (ch : Choices) × Steps (client_step words ch (node_of x) now k bytes) x y o
fed_given words now k bytes p x y r o e h low d plain is =
    let z = fed_steps words now k bytes x y r (subst Holds e h) (subst (λ (q : Parts). q.member.vars.commit ≤ last_index q.member.held.log) e low) d plain in
    (z.0, subst (Steps (client_step words z.0 (node_of x) now k bytes) x y) (sym is) z.1)

pub read_given : (words : Words) (now k : ℕ) (bytes : List ℕ) (p x y : Parts) (f : Start) (r : Read) (o : Given) → p ≡ x → Holds p → p.member.vars.commit ≤ last_index p.member.held.log
    → f ≡ start.Read r → Starts now k bytes x f y → o ≡ given_fed r (standing_of (node_of y)) → (ch : Choices) × Steps (client_step words ch (node_of x) now k bytes) x y o
read_given words now k bytes p x y f r o e h low is_read starts is =
    let s : Starts now k bytes x (start.Read r) y = subst (λ q. Starts now k bytes x q y) is_read starts in
    let d = s.1 (words (node_of x)) in
    fed_given words now k bytes p x y r o e h low d (ap is_csnp (sym d.at.end) ∙ no_csnp r.taken.end s.0) is

-- ---- a word

word_same : (v w : List ℕ) → ends.Word v ≡ ends.Word w → v ≡ w
word_same v w e = ap in_word e where
  in_word : FedEnd → List ℕ
  in_word ends.Ok = []
  in_word (ends.Bad at) = []
  in_word (ends.Word w) = w

module _ (g : step.Ground) (luck : Luck) (k : ℕ) (draw : List ℕ) (text : List ℕ → List ℕ) (d : step.Desk) (ws : List Watch) (c : Connection) (bytes w : List ℕ) where
  abbrev answered : List ℕ → Served
  answered v = served_so (closed false (put (text v) c)) d ws

  first_word : (f : Frame) → (fed_first (with_piece c bytes) f).1.end ≡ ends.Word w → first_served g k draw text (fed_first (with_piece c bytes) f).0 d ws (fed_first (with_piece c bytes) f).1.connect (fed_first (with_piece c bytes) f).1.end ≡ answered w
  first_word frames.Part e = no false refl (ap is_word e)
  first_word frames.Wrong e = no false refl (ap is_word e)
  first_word (frames.Word v) e = ap answered (word_same v w e)
  first_word (frames.Connect q n) e = no false refl (ap is_word e)

  abbrev read_as : Phase → Served
  read_as p = served_as g luck k draw text d ws p (fed_as p c bytes).0 (fed_as p c bytes).1

  pub serves_word : c.phase ≡ phase.Fresh → end_in c bytes ≡ ends.Word w → serves g luck k draw text d ws c bytes ≡ answered w
  unfolding serves fed
  serves_word fresh e = ap read_as fresh ∙ first_word (first (c.kept ++ bytes)) (ap (λ p. (fed_as p c bytes).1.end) (sym fresh) ∙ e)

luck_of_none : Luck
luck_of_none = record { events = None; requests = None; answers = None }

-- the connection k, which has a word, is answered
abbrev pub word_told : List ℕ → Parts → ℕ → Parts
word_told text p k = with_closed (with_put text p k) k

module _ (x : Parts) (k : ℕ) (bytes w text : List ℕ) (at : IsWordAt x.seating k bytes w) where
  abbrev was : Seat
  was = at.was

  abbrev after : Connection
  after = closed false (put text was.connection)

  pub told_at : (word_told text x k).seating ≡ seated_at x.seating k (seated was after)
  told_at = ap (λ t. left t k) (changed_again x.seating k (put text) (closed false) was at.there)

  word_open : is_over was.connection.phase ≡ false
  word_open = ap is_over at.fresh

  pub word_first : IsFirstAt (map.get x.seating.seats k)
  word_first = subst IsFirstAt (sym at.there) (subst IsFirst (sym at.fresh) tt)

  module _ (now : ℕ) (words : List ℕ → List ℕ) (room : last_of x.store ≤ last_number) (is_text : text ≡ words w) where
    serves_so : taken (ground_of x now) luck_of_none k was.draw words x.store x.watches was.connection bytes ≡ served_so after (desk_of x.store [] []) x.watches
    serves_so = serves_word (ground_in (ground_of x now) x.store.state) luck_of_none k was.draw words (desk_of x.store [] []) x.watches was.connection bytes w at.fresh at.end
        ∙ ap (λ v. served_so (closed false (put v was.connection)) (desk_of x.store [] []) x.watches) (sym is_text)

    word_takes : Takes (ground_of x now) k was.draw words bytes x.member x.store x.watches was.connection x.member x.store x.watches after (record { records = []; mail = [] })
    word_takes =
        let sends = sends_none (ground_of x now) x.member x.store room (record { records = []; mail = [] }) refl in record {
          luck = luck_of_none;
          connection = ap (λ (v : Served). v.connection) (sym serves_so);
          watches = ap (λ (v : Served). v.watches) (sym serves_so);
          over = subst (λ (v : Served). HandsOver (ground_of x now) x.member v.desk.bodies v.desk.forwards (record { records = []; mail = [] }) x.member) (sym serves_so) sends.over;
          at = subst (λ (v : Served). AtDesk x.store x.member.held.term now x.store v.desk.bodies v.desk) (sym serves_so) sends.at;
        }

    abbrev behind : Parts
    behind = record (word_told text x k) { events = x.events + 1 }

    abbrev read : Read
    read = word_read behind.seating.seats k (idle_among x.seating.seats (k ∷ [])) w

    pub word_fed : IsFed now k words bytes x read behind
    word_fed = record {
      at = record { was = was; there = at.there; stays_open = word_open; after = after; takes = word_takes; end = sym at.end; seating = told_at };
      heard = ap (heard_by now x.store.state x.heard) (sym at.fresh);
      spoken = ap (spoken_by x.spoken) (sym at.fresh);
      boot = refl;
      events = refl;
      ready = refl;
      lost = refl;
    }

-- as the code has it
pub say_given : (words : Words) (now k : ℕ) (bytes w text unready : List ℕ) (last : ℕ) (p x y₁ y₂ y : Parts) (r : Read) (o : Given) → p ≡ x → Holds p → p.member.vars.commit ≤ last_index p.member.held.log
    → last ≡ last_of p.store → last ≤ last_number → IsWordAt x.seating k bytes w → is_csnp (ends.Word w) ≡ false → text ≡ words (node_of x) w → unready ≡ idle_among p.seating.seats (k ∷ [])
    → y₁ ≡ with_put text x k → y₂ ≡ with_closed y₁ k → y ≡ record y₂ { events = y₂.events + 1 } → r ≡ word_read y.seating.seats k unready w → o ≡ given_fed r (standing_of (node_of y))
    → (ch : Choices) × Steps (client_step words ch (node_of x) now k bytes) x y o
say_given words now k bytes w text unready last p x y₁ y₂ y r o e h low index room at plain is_text is_idle puts closes counts is_read is =
    let all : y ≡ record (word_told text x k) { events = x.events + 1 } = counts ∙ ap (λ (z : Parts). record z { events = z.events + 1 }) (closes ∙ ap (λ z. with_closed z k) puts) in
    let within : last_of x.store ≤ last_number = subst (λ i. i ≤ last_number) (index ∙ ap (λ (z : Parts). last_of z.store) e) room in
    let same_idle : unready ≡ idle_among x.seating.seats (k ∷ []) = is_idle ∙ ap (λ (z : Parts). idle_among z.seating.seats (k ∷ [])) e in
    let made : r ≡ word_read (word_told text x k).seating.seats k (idle_among x.seating.seats (k ∷ [])) w = is_read ∙ (λ i. word_read (all i).seating.seats k (same_idle i) w) in
    let d : IsFed now k (words (node_of x)) bytes x r y = subst (λ (z : Read × Parts). IsFed now k (words (node_of x)) bytes x z.0 z.1) (λ i. (sym made i, sym all i)) (word_fed x k bytes w text at now (words (node_of x)) within is_text) in
    fed_given words now k bytes p x y r o e h low d (ap is_csnp (sym d.at.end) ∙ ap (λ (z : Read). is_csnp z.taken.end) made ∙ plain) is

-- ---- a packet is taken back

take_whole : {A : Type 0} (us es : List A) → take (length us) (us ++ es) ≡ us
take_whole [] es = refl
take_whole (u ∷ us) es = ap (λ z. u ∷ z) (take_whole us es)

take_last : {A : Type 0} (us : List A) (u : A) → take (length (us ++ u ∷ []) - 1) (us ++ u ∷ []) ≡ us
take_last us u =
    let n : length (us ++ u ∷ []) ≡ length us + 1 = length-append us (u ∷ []) in
    let same : length (us ++ u ∷ []) - 1 ≡ length us = omega (arith, n) in
    ap (λ j. take j (us ++ u ∷ [])) same ∙ take_whole us (u ∷ [])

pub back_again : (text : List ℕ) (x : Parts) (k : ℕ) → IsFirstAt (map.get x.seating.seats k) → with_unput (with_put text x k) k ≡ x
back_again text x k at =
    let e = early_in x.seating k at in
    let seat : seated e.seat (taken_back (put text e.seat.connection)) ≡ e.seat = ap (λ o. seated e.seat (record e.seat.connection { outbox = o })) (take_last e.seat.connection.outbox text) in
    ap (λ t. record x { seating = t }) (changed_again x.seating k (put text) taken_back e.seat e.there ∙ held_still x.seating k e.seat (seated e.seat (taken_back (put text e.seat.connection))) (sym e.there) seat)

-- ---- a word that asks for an image

module _ (words : Words) (ch : Choices) (now k : ℕ) (bytes w text : List ℕ) (x x₂ : Parts) (h : Holds x) (at : IsWordAt x.seating k bytes w) (is_image : is_csnp (ends.Word w) ≡ true) (is_text : text ≡ words (node_of x) w)
    (out : RaftOut Snapshot) (image : Option Snapshot) (is : image ≡ base_image (node_of x)) (re : Reacts (compacted (node_of (with_put text x k))) None (with_put text x k) out x₂) where
  abbrev asks_as : Seat
  asks_as = at.was

  abbrev said : Seat
  said = seated asks_as (put text asks_as.connection)

  abbrev ended : Seat
  ended = seated asks_as (closed false (put text asks_as.connection))

  abbrev seats : Seats
  seats = map.insert x.seating.seats k ended

  abbrev behind_all : Parts
  behind_all = with_closed x₂ k

  put_seats : x₂.seating.seats ≡ map.insert x.seating.seats k said
  put_seats = ap (λ (n : Node). n.seats) re.node ∙ ap (λ (t : Seating Seat). t.seats) (changed_is x.seating k (put text) asks_as at.there)

  put_there : map.get x₂.seating.seats k ≡ Some said
  put_there = ap (λ m. map.get m k) put_seats ∙ held_at x.seating k said

  pub end_seats : behind_all.seating.seats ≡ seats
  end_seats =
      ap (λ (t : Seating Seat). t.seats) (changed_is x₂.seating k (closed false) said put_there)
      ∙ ap (λ m. map.insert m k ended) put_seats
      ∙ ap (λ (t : Seating Seat). t.seats) (held_twice x.seating k said ended)

  end_next : behind_all.seating.next ≡ x.seating.next
  end_next =
      ap (λ (t : Seating Seat). t.next) (changed_is x₂.seating k (closed false) said put_there)
      ∙ ap (λ (n : Node). n.next) re.node
      ∙ ap (λ (t : Seating Seat). t.next) (changed_is x.seating k (put text) asks_as at.there)

  end_watches : x₂.watches ≡ swept seats x.watches
  end_watches = ap (λ (n : Node). n.watches) re.node ∙ sym (kept_all (λ (v : Watch). v.conn) keeps_watches seats x.watches (kept_put (λ (v : Watch). v.conn) keeps_watches x.seating.seats k ended x.watches refl h.kept))

  abbrev answer : Served
  answer = served_so (closed false (put text asks_as.connection)) (desk (node_of x)) x.watches

  served_is : client_served words ch (node_of x) now k bytes asks_as ≡ answer
  unfolding client_served
  served_is = serves_word (ground now x.store.state (node_of x)) (ch.luck k) k asks_as.draw (words (node_of x)) (desk (node_of x)) x.watches asks_as.connection bytes w at.fresh at.end
      ∙ ap (λ v. served_so (closed false (put v asks_as.connection)) (desk (node_of x)) x.watches) (sym is_text)

  abbrev turn_of : Turn
  turn_of = fed_turn (node_of x) now k asks_as (ends.Word w) answer

  abbrev with_asked : Input Snapshot → Turn → Stepped Snapshot
  with_asked input t = together images ch (node_of x) (kind.Client k bytes) (reacted (node_of x) input) (installed (node_of x) input) t

  abbrev stepped : Stepped Snapshot
  stepped = together images ch (node_of x) (kind.Client k bytes) (compacted (node_of x)) None turn_of

  open_there : is_over asks_as.connection.phase ≡ false
  open_there = ap is_over at.fresh

  input_is : client_input {I = Snapshot} words ch (node_of x) now k bytes (Some asks_as) ≡ asks (raft.Compact x.store.state.applied)
  input_is = ap (λ b. if b then idle else (if is_csnp (end_in asks_as.connection bytes) then asks (raft.Compact x.store.state.applied) else propose_if now (client_served words ch (node_of x) now k bytes asks_as).desk.bodies)) open_there
      ∙ ap (λ b. if b then asks (raft.Compact x.store.state.applied) else propose_if now (client_served words ch (node_of x) now k bytes asks_as).desk.bodies) (ap is_csnp at.end ∙ is_image)

  turn_is : client_turn words ch (node_of x) now k bytes (Some asks_as) ≡ turn_of
  turn_is = ap (λ b. if b then turn (node_of x) (says.Fed fed_words.Unknown) else fed_turn (node_of x) now k asks_as (end_in asks_as.connection bytes) (client_served words ch (node_of x) now k bytes asks_as)) open_there
      ∙ (λ i. fed_turn (node_of x) now k asks_as (at.end i) (served_is i))

  compact_asked : with_asked (asks (raft.Compact x.store.state.applied)) turn_of ≡ stepped
  unfolding reacted installed
  compact_asked = refl

  step_is : client_step words ch (node_of x) now k bytes ≡ stepped
  step_is = ap (client_at words ch (node_of x) now k bytes) at.there ∙ (λ i. with_asked (input_is i) (turn_is i)) ∙ compact_asked

  node_is : node_of behind_all ≡ node_behind (node_of x) (compacted (node_of x)) turn_of.node
  node_is =
      (λ i. record {
        me = (re.node i).me;
        members = (re.node i).members;
        boot = (re.node i).boot;
        held = (re.node i).held;
        running = (re.node i).running;
        state = (re.node i).state;
        seats = end_seats i;
        next = end_next i;
        watches = end_watches i;
        heard = (re.node i).heard;
        spoken = (re.node i).spoken;
      })
      ∙ ap (λ q. node_behind (node_of x) (compacted (node_of x)) (record (hears_client now q (node_of x)) { seats = seats; watches = x.watches })) (sym at.fresh)

  module _ (r : Read) (is_read : r ≡ word_read behind_all.seating.seats k (idle_among x.seating.seats (k ∷ [])) w) where
    made : Steps stepped x behind_all (given_image r out image (standing_of (node_of behind_all)))
    unfolding together
    made = record {
      is = record {
        node = node_is;
        said = refl;
        records = re.records;
        image = is ∙ compact_image (node_of x);
        mail = re.mail ∙ sym (append-nil (map (filled x.spoken) (compacted (node_of x)).mail) ∙ compact_plain (node_of x) x.spoken);
        cut = refl;
        lost = ap (λ (z : Read). z.lost) is_read ∙ ap (λ m. length (lost_among m (k ∷ []))) end_seats ∙ lost_here x.seating.seats k asks_as ended at.there open_there;
        standing = ap standing_of node_is;
        ready = ap (λ (z : Read). z.ready) is_read ∙ ap (λ m. ready_among m (idle_among x.seating.seats (k ∷ []))) end_seats ∙ ready_here x.seating.seats k asks_as ended at.there;
      };
      counted = re.counted;
    }

    pub image_steps : Steps (client_step words ch (node_of x) now k bytes) x behind_all (given_image r out image (standing_of (node_of behind_all)))
    image_steps = subst (λ (z : Stepped Snapshot). Steps z x behind_all (given_image r out image (standing_of (node_of behind_all)))) (sym step_is) made

-- as the code has it
pub image_given : (words : Words) (now k : ℕ) (bytes w text unready : List ℕ) (p x x₂ y : Parts) (out : RaftOut Snapshot) (image : Option Snapshot) (r : Read) (o : Given) → p ≡ x → Holds p → IsWordAt x.seating k bytes w → is_csnp (ends.Word w) ≡ true → text ≡ words (node_of x) w
    → unready ≡ idle_among p.seating.seats (k ∷ []) → image ≡ base_image (node_of x) → Reacts (compacted (node_of (with_put text x k))) None (with_put text x k) out x₂ → y ≡ with_closed x₂ k → r ≡ word_read y.seating.seats k unready w → o ≡ given_image r out image (standing_of (node_of y))
    → (ch : Choices) × Steps (client_step words ch (node_of x) now k bytes) x y o
image_given words now k bytes w text unready p x x₂ y out image r o e h at is_image is_text is_idle is re closes is_read is_given =
    let ch : Choices = record { room = None; luck = λ j. luck_of_none } in
    let same_idle : unready ≡ idle_among x.seating.seats (k ∷ []) = is_idle ∙ ap (λ (z : Parts). idle_among z.seating.seats (k ∷ [])) e in
    let read : r ≡ word_read (with_closed x₂ k).seating.seats k (idle_among x.seating.seats (k ∷ [])) w = is_read ∙ (λ i. word_read (closes i).seating.seats k (same_idle i) w) in (
      ch,
      subst (λ (z : Parts × Given). Steps (client_step words ch (node_of x) now k bytes) x z.0 z.1) (λ i. (sym closes i, sym (is_given ∙ ap (λ (z : Parts). given_image r out image (standing_of (node_of z))) closes) i))
          (image_steps words ch now k bytes w text x x₂ (subst Holds e h) at is_image is_text out image is re r read),
    )

-- the connection waits for its end
pub image_first : (text : List ℕ) (x x₂ : Parts) (k : ℕ) (out : RaftOut Snapshot) → IsFirstAt (map.get x.seating.seats k) → Reacts (compacted (node_of (with_put text x k))) None (with_put text x k) out x₂ → IsFirstAt (map.get x₂.seating.seats k)
image_first text x x₂ k out at re = subst (λ (n : Node). IsFirstAt (map.get n.seats k)) (sym re.node) (still_early (put text) (λ c. refl) x.seating k at)
