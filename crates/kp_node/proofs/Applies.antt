-- The parts of a node behind an entry, from what was found and done before it, for it and behind it.
use Rattle.std.proofs.Common.{◌≡◌, ℕ, ◌+◌, ◌-◌, ◌≤◌, ◌^◌, arith, append-nil, Bool, true, false, cond, List, [], ◌∷◌, length, Option, Some, None, is_some, refl, ap, sym, subst, ◌∙◌}
use Rattle.std.specs.Prelude.{nat_eq, if◌then◌else◌, ◌==◌, IsSome, slice_get}
use Rattle.std.specs.Option.{option_map}
use Rattle.std.specs.Ordering.{nat_cmp}
use Rattle.std.specs.Cmp.{nat_eq_equiv}
use Rattle.std.specs.FinMap as map
use Rattle.std.specs.FinMap.{FinMap}
use Rattle.kp_model.specs.declared.entry.Body.{Body}
use Rattle.kp_model.specs.declared.entry.Body.TheVariants as body
use Rattle.kp_model.specs.declared.reply.Committed.{Committed}
use Rattle.kp_model.specs.declared.reply.Event.{Event}
use Rattle.kp_model.specs.declared.reply.Reply.{Reply}
use Rattle.kp_model.specs.LogEntry.{LogEntry}
use Rattle.kp_model.specs.Limits.{last_number}
use Rattle.kp_model.specs.State.{State, Sessions}
use Rattle.kp_model.specs.Step.{Outcome, apply}
use Rattle.kp_model.specs.Store.{Store, last as last_of, committed_as, commit_answer, commit_leaves}
use Rattle.kp_model.proofs.Applied.{applied-apply}
use Rattle.kp_model.specs.Taken.{is_stale}
use Rattle.kp_raft.specs.Members.{Member}
use Rattle.kp_expiry.specs.declared.heard.Heard.{Heard}
use Rattle.kp_seats.specs.Seating.{Seating, holding, roomy}
use Rattle.kp_seats.specs.Serving.{IsServer}
use Rattle.kp_seats.specs.Walked.{SameBeside}
use Rattle.kp_watch.specs.declared.watch.Fired.{Fired}
use Rattle.kp_watch.specs.declared.watch.Watch.{Watch}
use Rattle.kp_watch.specs.Watching.{fired, shown, somes}
use Rattle.kp_wire.specs.declared.reply.WireReply.{WireReply}
use Rattle.kp_conn.specs.declared.fed.Fed.{Fed}
use Rattle.kp_conn.specs.declared.phase.Phase.TheVariants as phase
use Rattle.kp_conn.specs.Connection.{Connection, blank, closed, put, opened, serving, is_lost}
use Rattle.kp_conn.specs.Fed.{fed}
use Rattle.kp_conn.specs.Packets.{connect_packet}
use Rattle.kp_wire.specs.declared.connect.ConnectReply.{ConnectReply}
use Rattle.kp_step.specs.declared.seat.Seat.{Seat}
use Rattle.kp_step.specs.Choices.{Choices}
use Rattle.kp_step.specs.Handing as step
use Rattle.kp_step.specs.Node.{Seats}
use Rattle.kp_step.specs.Step.{swept, count_lost}
use Rattle.kp_step.specs.Tables.{seated}
use Rattle.kp_step.specs.Committing.{newcomer, heard_behind}
use Rattle.kp_node.specs.declared.applying.Applied.{Applied}
use Rattle.kp_node.specs.declared.applying.Prepared.{Prepared}
use Rattle.kp_node.specs.declared.guests.Guest.{Guest}
use Rattle.kp_node.specs.declared.joining.Ground.{Ground}
use Rattle.kp_node.specs.declared.prospects.Prospect.{Prospect}
use Rattle.kp_node.specs.declared.serving.Handed.{Handed}
use Rattle.kp_node.specs.declared.welcoming.Welcome.{Welcome}
use Rattle.kp_node.specs.Applied.{made_of, store_behind, waits_for, Finishes, MayFinish, IsPrepared, IsTable, IsApplied}
use Rattle.kp_node.specs.Changing.{was_given_up, ready_among, lost_among, ChangedAt}
use Rattle.kp_node.specs.Concerned.{HasConcerned}
use Rattle.kp_node.specs.Forgetting.{ended_by, forgotten}
use Rattle.kp_node.specs.Greeting.{Greets, reply_with}
use Rattle.kp_node.specs.Guests.{none_handed, swapped, ServesSome, IsAside, IsLetIn, IsSeated, joined_if}
use Rattle.kp_node.specs.Holding.{AreKept, served_by, served_at}
use Rattle.kp_node.specs.Indexing.{SameBesideIndex}
use Rattle.kp_node.specs.Informing.{IsAnswerIn, AreInformed}
use Rattle.kp_node.specs.Joining.{ground_in, desk_of}
use Rattle.kp_node.specs.Meaning.{IsIndexed}
use Rattle.kp_node.specs.Prospects.{newcomer_by, is_write, is_connecting, waits_at, guest_in, hears_in, IsAlone, IsProspect}
use Rattle.kp_node.specs.Proposing.{AtDesk}
use Rattle.kp_node.specs.Resting.{IsResting}
use Rattle.kp_node.specs.Serving.{HandsOver}
use Rattle.kp_node.specs.Welcoming.{asks_session, welcome_by, heard_of}
use Rattle.kp_node.proofs.Behind.{welcome_law, heard_law}
use Rattle.kp_node.proofs.Changed.{ready_law, lost_law}
use Rattle.kp_node.proofs.Forgotten.{end_law}
use Rattle.kp_node.proofs.Guested.{ServedIf, guest_table}
use Rattle.kp_node.proofs.HandedOver.{proposes_none}
use Rattle.kp_node.proofs.Maps.{no, get-put}
use Rattle.kp_node.proofs.Unasked.{opens_none}
use Rattle.kp_node.proofs.Placed.{not_none}
use Rattle.kp_node.proofs.Seated.{guest_waits, is_waiting, no_write, no_packets}
use Rattle.kp_node.proofs.Replied.{plain_table}
use Rattle.kp_node.proofs.Tabled.{rows, chosen, by_luck}

-- ---- deadlines

ask_forgets : (b : Body) (r : Reply) (m : FinMap nat_cmp Heard) → asks_session b ≡ true → forgotten (ended_by b r) m ≡ m
ask_forgets body.Noop r m h = no false refl h
ask_forgets (body.OpenSession timeout passwd o) r m h = refl
ask_forgets (body.Attach session passwd o) r m h = refl
ask_forgets (body.Expire session) r m h = no false refl h
ask_forgets (body.Write session epoch seq c) r m h = no false refl h

unasked_welcome : (m : Sessions) (b : Body) (r : Reply) → asks_session b ≡ false → welcome_by m b r ≡ None
unasked_welcome m body.Noop r h = refl
unasked_welcome m (body.OpenSession timeout passwd o) r h = no true h refl
unasked_welcome m (body.Attach session passwd o) r h = no true h refl
unasked_welcome m (body.Expire session) r h = refl
unasked_welcome m (body.Write session epoch seq c) r h = refl

module _ (s : State) (e : LogEntry) (now : ℕ) (m : FinMap nat_cmp Heard) where
  abbrev made : Outcome
  made = apply s e

  -- what was heard before the entry, and forgotten with it, is what is heard behind it
  pub heard_is : (b : Bool) → asks_session e.body ≡ b → forgotten (ended_by e.body made.reply) (heard_of now (welcome_by s.sessions e.body made.reply) m) ≡ heard_behind now e.body made.reply made.state m
  heard_is true h = ask_forgets e.body made.reply _ h ∙ heard_law s e now m h
  heard_is false h = ap (λ w. forgotten (ended_by e.body made.reply) (heard_of now w m)) (unasked_welcome s.sessions e.body made.reply h) ∙ sym (end_law now e.body made.reply made.state m h (opens_none s e h))

-- ---- a guest that stands aside

there_is : (o : Option Seat) → waits_at o ≡ true → (s : Seat) × ((o ≡ Some s) × (is_connecting s.connection.phase ≡ true))
there_is None h = no false refl h
there_is (Some s) h = (s, (refl, h))

-- the guest is there and waits
pub record Waits (me boot : ℕ) (b : Body) (r : Reply) (t : Seating Seat) (k : ℕ) : Type 0 where
  pub seat : Seat
  pub there : map.get t.seats k ≡ Some seat
  pub ro : Bool
  pub phase_is : seat.connection.phase ≡ phase.Connecting ro
  pub new : newcomer_by me boot b r ≡ Some k

guest_there : (me boot : ℕ) (b : Body) (r : Reply) (t : Seating Seat) (k : ℕ) → Some k ≡ guest_in t.seats (newcomer_by me boot b r) → Waits me boot b r t k
guest_there me boot b r t k h =
    let w = guest_waits t.seats (newcomer_by me boot b r) k h in
    let s = there_is (map.get t.seats k) w.1 in
    let p = is_waiting s.0.connection.phase s.1.1 in
    record { seat = s.0; there = s.1.0; ro = p.0; phase_is = p.1; new = w.0 }

unwritten_answer : (b : Body) (r : Reply) (a : Option WireReply) (m : Seats) → is_write b ≡ false → IsAnswerIn b r a m
unwritten_answer body.Noop r a m h = tt
unwritten_answer (body.OpenSession timeout passwd o) r a m h = tt
unwritten_answer (body.Attach session passwd o) r a m h = tt
unwritten_answer (body.Expire session) r a m h = tt
unwritten_answer (body.Write session epoch seq c) r a m h = no true h refl

-- one that was opened was not given up, nor where what it kept was read
opened_alive : (r : ConnectReply) (epoch : ℕ) (c : Connection) → is_lost (fed (opened r epoch c) []).0.phase ≡ false
unfolding fed
opened_alive r epoch c = at (r.session == 0) where
  at : (b : Bool) → is_lost (fed (if b then closed false (put (connect_packet r) c) else serving r.session epoch (put (connect_packet r) c)) []).0.phase ≡ false
  at true = refl
  at false = refl

greeted_alive : (ro : Bool) (w : Option Welcome) (f : Option Fed) (c c' : Connection) → Greets (phase.Connecting ro) w f c c' → is_lost c'.phase ≡ false
greeted_alive ro None f c c' h = ap (λ (z : Connection). is_lost z.phase) h.0
greeted_alive ro (Some x) f c c' h = ap (λ (z : Connection × Fed). is_lost z.0.phase) (sym h.1.1) ∙ opened_alive (reply_with ro x) x.epoch c

module _ (me boot : ℕ) (m : Sessions) (b : Body) (r : Reply) (es : List Event) (t : Seating Seat) (ws : List Watch) (served : (q : ℕ) → map.get t.sessions q ≡ served_at (map.get t.seats q)) where
  abbrev aside : ℕ → Seat → Seating Seat
  aside k s = holding (roomy t) k (seated s blank)

  indexed_aside : (k : ℕ) (s : Seat) → IsIndexed (aside k s)
  indexed_aside k s q i at = by_place (nat_eq k q) refl at where
    at_q : (z : Bool) → nat_eq k q ≡ z → map.get (aside k s).seats q ≡ cond z (Some (seated s blank)) (map.get t.seats q)
    at_q z e = get-put t.seats k (seated s blank) q ∙ ap (λ b. cond b (Some (seated s blank)) (map.get t.seats q)) e

    by_place : (z : Bool) → nat_eq k q ≡ z → served_at (map.get (aside k s).seats q) ≡ Some i → map.get t.sessions q ≡ Some i
    by_place true e at = absurd (not_none None i refl (sym (ap served_at (at_q true e)) ∙ at))
    by_place false e at = served q ∙ ap served_at (sym (at_q false e)) ∙ at

  module _ (p : Prospect) (g : Option Guest) (u : Seating Seat) (is : IsProspect me boot m t ws b r es p) where
    -- what telling wants
    let_in_indexed : (n : Option ℕ) (w : Option Welcome) (g : Option Guest) → p.guest ≡ n → IsLetIn w t n g u → IsIndexed u
    let_in_indexed None w None e h = subst IsIndexed (sym h) (λ q i at. served q ∙ at)
    let_in_indexed None w (Some g) e h = absurd h
    let_in_indexed (Some k) w None e h = absurd h
    let_in_indexed (Some k) w (Some g) e h = let z = guest_there me boot b r t k (sym e ∙ is.guest) in subst IsIndexed (sym (h.seats z.seat z.there)) (indexed_aside k z.seat)

    pub indexed_let_in : IsLetIn p.welcome t p.guest g u → IsIndexed u
    indexed_let_in h = let_in_indexed p.guest p.welcome g refl h

    let_in_answer : (n : Option ℕ) (w : Option Welcome) (g : Option Guest) → p.guest ≡ n → IsLetIn w t n g u → IsAnswerIn b r p.answer u.seats
    let_in_answer None w None e h = subst (λ (z : Seating Seat). IsAnswerIn b r p.answer z.seats) (sym h) is.answer
    let_in_answer None w (Some g) e h = absurd h
    let_in_answer (Some k) w None e h = absurd h
    let_in_answer (Some k) w (Some g) e h = unwritten_answer b r p.answer u.seats (no_write me boot b (is_stale r) k (guest_there me boot b r t k (sym e ∙ is.guest)).new)

    pub answer_let_in : IsLetIn p.welcome t p.guest g u → IsAnswerIn b r p.answer u.seats
    answer_let_in h = let_in_answer p.guest p.welcome g refl h

    module _ (zxid : ℕ) (v : Seating Seat) (told : AreInformed me boot zxid b r (fired ws es).pairs u.seats v.seats) (beside : SameBeside u v) where
      -- what finishing wants
      still_there : (k : ℕ) (s : Seat) → u.seats ≡ map.insert t.seats k (seated s blank) → IsSome (map.get v.seats k)
      still_there k s e =
          let ch = chosen me boot zxid b r (fired ws es).pairs u.seats v.seats told in
          let here : map.get u.seats k ≡ Some (seated s blank) = ap (λ m. map.get m k) e ∙ get-put t.seats k (seated s blank) k ∙ ap (λ z. cond z (Some (seated s blank)) (map.get t.seats k)) (nat_eq_equiv.refl k) in
          ap is_some (sym (by_luck me boot zxid b r (fired ws es).pairs u.seats v.seats told ch k refl refl) ∙ ap (option_map (rows me boot zxid b r (fired ws es).pairs ch k)) here)

      may_finish : (n : Option ℕ) (w : Option Welcome) (g : Option Guest) → p.guest ≡ n → IsLetIn w t n g u → MayFinish g v
      may_finish None w None e h = tt
      may_finish None w (Some g) e h = absurd h
      may_finish (Some k) w None e h = absurd h
      may_finish (Some k) w (Some g) e h =
          let z = guest_there me boot b r t k (sym e ∙ is.guest) in
          let here = h.seats z.seat z.there in (
            beside.2 ∙ ap (λ (y : Seating Seat). y.has_room) here,
            (
              subst (λ j. IsSome (map.get v.seats j)) (sym h.number) (still_there k z.seat (ap (λ (y : Seating Seat). y.seats) here)),
              greeted_alive z.ro w g.fed z.seat.connection g.conn (subst (λ q. Greets q w g.fed z.seat.connection g.conn) z.phase_is (h.greets z.seat z.there)),
            ),
          )

      pub finish_may : IsLetIn p.welcome t p.guest g u → MayFinish g v
      finish_may h = may_finish p.guest p.welcome g refl h

-- ---- what is handed in

asked_by : (me boot : ℕ) (b : Body) (late : Bool) (k : ℕ) → (if late then None else newcomer me boot b) ≡ Some k → asks_session b ≡ true
asked_by me boot b true k h = no true (sym (ap is_some h)) refl
asked_by me boot body.Noop false k h = no true (sym (ap is_some h)) refl
asked_by me boot (body.OpenSession timeout passwd o) false k h = refl
asked_by me boot (body.Attach session passwd o) false k h = refl
asked_by me boot (body.Expire session) false k h = no true (sym (ap is_some h)) refl
asked_by me boot (body.Write session epoch seq c) false k h = no true (sym (ap is_some h)) refl

alone_is : (t : Seating Seat) (k : ℕ) (w : Option Welcome) (server : Option ℕ) → IsAlone t (Some k) w server → (x : Welcome) → w ≡ Some x → IsServer t.sessions x.id server
alone_is t k None server h x e = absurd (not_none None x refl e)
alone_is t k (Some y) server h x e = subst (λ (z : Option Welcome). AloneOf z) e h where
  AloneOf : Option Welcome → Type 0
  AloneOf None = Unit {0}
  AloneOf (Some z) = IsServer t.sessions z.id server

module _ (g : Ground) (m : Member) (x : Store) (room : last_of x ≤ last_number) where
  begun : AtDesk x g.term g.now x [] (desk_of x [] [])
  begun = record { store = ap (λ us. record x { unapplied = us }) (sym (append-nil x.unapplied)); latest = refl; room = refl; bodies = refl; within = room; numbers = refl }

  -- nothing was
  abbrev Nothing : Member → Store → Handed → Type 0
  Nothing n y h = HandsOver g m [] [] h n × AtDesk x g.term g.now y [] (desk_of x [] [])

  nothing_handed : (n : Member) (y : Store) (h : Handed) → n ≡ m → y ≡ x → h ≡ none_handed → Nothing n y h
  nothing_handed n y h same_member same_store none =
      subst (λ z. Nothing z y h) (sym same_member) (subst (λ z. Nothing m z h) (sym same_store) (subst (Nothing m x) (sym none) (record { raft = proposes_none m g.now [] refl; mail = refl }, begun)))

  -- what a guest handed in
  record GuestHanded (k : ℕ) (f : Option Fed) (ws : List Watch) (c : Connection) (n : Member) (y : Store) (ws' : List Watch) (c' : Connection) (h : Handed) : Type 0 where
    pub desk : step.Desk
    pub by : ServedIf (ground_in g x.state) k f ws c (desk_of x [] []) ws' c' desk
    pub over : HandsOver g m desk.bodies desk.forwards h n
    pub at : AtDesk x g.term g.now y desk.bodies desk

  guest_handed : (k : ℕ) (f : Option Fed) (ws : List Watch) (c : Connection) (n : Member) (y : Store) (ws' : List Watch) (c' : Connection) (h : Handed) → ServesSome g k f m x ws c n y ws' c' h → GuestHanded k f ws c n y ws' c' h
  guest_handed k None ws c n y ws' c' h s =
      let none = nothing_handed n y h s.0.0 s.0.1 s.2 in
      record { desk = desk_of x [] []; by = (s.1.1, (refl, s.1.0)); over = none.0; at = none.1 }
  guest_handed k (Some f) ws c n y ws' c' h s = record { desk = s.desk; by = s.served; over = s.over; at = s.at }

-- ---- the connections, and what was handed in

-- by some choices the connections are those of the definition, and what was handed in is on its way
pub record IsDone (g : Ground) (e : LogEntry) (es : List LogEntry) (m : Member) (s : State) (t : Seating Seat) (ws : List Watch) (ks : List ℕ) (h : Handed) (n : Member) (y : Store) (u : Seating Seat) (ws' : List Watch) : Type 0 where
  pub choices : Choices
  pub desk : step.Desk
  pub table : IsTable ks t (made_of choices g e es s t.seats ws) u ws' desk
  pub over : HandsOver g m desk.bodies desk.forwards h n
  pub at : AtDesk (store_behind (apply s e).state es) g.term g.now y desk.bodies desk

module _ (g : Ground) (e : LogEntry) (es : List LogEntry) (m n : Member) (s : State) (y : Store) (t u v w : Seating Seat) (ws ws' : List Watch) (p : Prospect) (h : Handed) (zxid : ℕ)
    (rest : (q : ℕ) → IsResting (map.get t.seats q)) (kept : AreKept t.seats ws) (served : (q : ℕ) → map.get t.sessions q ≡ served_at (map.get t.seats q)) where
  abbrev o : Outcome
  o = apply s e

  abbrev x : Store
  x = store_behind o.state es

  abbrev ks : List ℕ
  ks = p.among.conns.items

  abbrev Done : Seating Seat → Type 0
  Done = λ z. IsDone g e es m s t ws ks h n y z ws'

  module _ (is : IsProspect g.me g.boot s.sessions t ws e.body o.reply o.events p) (same : zxid ≡ o.state.applied) (told : AreInformed g.me g.boot zxid e.body o.reply (fired ws o.events).pairs u.seats v.seats)
      (indexed : IsIndexed v) (beside : SameBeside u v) (room : last_of x ≤ last_number) where
    told_so : AreInformed g.me g.boot o.state.applied e.body o.reply (fired ws o.events).pairs u.seats v.seats
    told_so = subst (λ i. AreInformed g.me g.boot i e.body o.reply (fired ws o.events).pairs u.seats v.seats) same told

    plain : p.guest ≡ None → u ≡ t → Finishes g None (waits_for e.body p.server) m x (fired ws o.events).left v n y ws' w h → Done w
    plain none unmoved f =
        let handed = nothing_handed g m x room n y h f.0.0 f.0.1 f.1.1 in
        let made = plain_table g.me g.boot (ground_in g o.state) (desk_of x [] []) e.body o p.fired.items p.server ks ws ws' t v w rest kept served is.server p.guest is.among.all is.shown (sym is.guest ∙ none)
        (subst (λ (z : Seating Seat). AreInformed g.me g.boot o.state.applied e.body o.reply (fired ws o.events).pairs z.seats v.seats) unmoved told_so) indexed (subst (λ z. SameBeside z v) unmoved beside) f.1.0 in
        record { choices = made.0; desk = desk_of x [] []; table = made.1; over = handed.0; at = handed.1 }

    module _ (k : ℕ) (q : Guest) (guest : p.guest ≡ Some k) (aside : IsAside p.welcome k (roomy t) q u) (seated_ : IsSeated g q m x (fired ws o.events).left v n y ws' w h) where
      waits : Waits g.me g.boot e.body o.reply t k
      waits = guest_there g.me g.boot e.body o.reply t k (sym guest ∙ is.guest)

      abbrev put_aside : Seating Seat
      put_aside = holding (roomy t) k (seated waits.seat blank)

      told_aside : AreInformed g.me g.boot o.state.applied e.body o.reply (fired ws o.events).pairs put_aside.seats v.seats
      told_aside = subst (λ (z : Seating Seat). AreInformed g.me g.boot o.state.applied e.body o.reply (fired ws o.events).pairs z.seats v.seats) (aside.seats waits.seat waits.there) told_so

      own_row : Seat
      own_row = rows g.me g.boot o.state.applied e.body o.reply (fired ws o.events).pairs (chosen g.me g.boot o.state.applied e.body o.reply (fired ws o.events).pairs put_aside.seats v.seats told_aside) k (seated waits.seat blank)

      own_place : map.get v.seats k ≡ Some own_row
      unfolding own_row
      own_place = let ch = chosen g.me g.boot o.state.applied e.body o.reply (fired ws o.events).pairs put_aside.seats v.seats told_aside in
          sym (by_luck g.me g.boot o.state.applied e.body o.reply (fired ws o.events).pairs put_aside.seats v.seats told_aside ch k refl refl)
          ∙ ap (option_map (rows g.me g.boot o.state.applied e.body o.reply (fired ws o.events).pairs ch k)) (get-put t.seats k (seated waits.seat blank) k ∙ ap (λ z. cond z (Some (seated waits.seat blank)) (map.get t.seats k)) (nat_eq_equiv.refl k))

      own_seat : (c : Connection) → seated own_row c ≡ seated waits.seat c
      unfolding own_row
      own_seat c = refl

      back : w ≡ joined_if (served_by seated_.conn.phase) k (holding v k (seated waits.seat seated_.conn))
      back = seated_.seats ∙ (λ i. joined_if (served_by seated_.conn.phase) (aside.number i) (swapped v (aside.number i) seated_.conn (map.get v.seats (aside.number i))))
          ∙ ap (λ z. joined_if (served_by seated_.conn.phase) k (swapped v k seated_.conn z)) own_place
          ∙ ap (λ z. joined_if (served_by seated_.conn.phase) k (holding v k z)) (own_seat seated_.conn)

      handed : GuestHanded g m x room k q.fed (fired ws o.events).left q.conn n y ws' seated_.conn h
      handed = guest_handed g m x room k q.fed (fired ws o.events).left q.conn n y ws' seated_.conn h (subst (λ j. ServesSome g j q.fed m x (fired ws o.events).left q.conn n y ws' seated_.conn h) aside.number seated_.served)

      with_guest : Done w
      with_guest =
          let made = guest_table g.me g.boot (ground_in g o.state) (desk_of x [] []) handed.desk s.sessions e.body o p.fired.items p.server ks ws ws' t v k waits.seat waits.ro p.welcome q.fed q.conn seated_.conn rest kept served
          is.server (subst (λ z. HasConcerned p.fired.items p.server z ks) guest is.among.all) is.shown waits.there waits.phase_is waits.new
          (no_packets o.events p.fired.items (fired ws o.events).pairs k is.shown (ap (λ z. hears_in z p.fired.items) (sym guest) ∙ is.unheard))
          (alone_is t k p.welcome p.server (subst (λ z. IsAlone t z p.welcome p.server) guest is.alone)) is.welcome
          (is.welcome ∙ welcome_law s e (asked_by g.me g.boot e.body (is_stale o.reply) k waits.new))
          (subst (λ z. Greets z p.welcome q.fed waits.seat.connection q.conn) waits.phase_is (aside.greets waits.seat waits.there))
          told_aside indexed (subst (λ z. SameBeside z v) (aside.seats waits.seat waits.there) beside) handed.by in
          subst Done (sym back) (record { choices = made.0; desk = handed.desk; table = made.1; over = handed.over; at = handed.at })

    done_by : (k : Option ℕ) (q : Option Guest) → p.guest ≡ k → IsLetIn p.welcome t k q u → Finishes g q (waits_for e.body p.server) m x (fired ws o.events).left v n y ws' w h → Done w
    done_by None None e l f = plain e l f
    done_by None (Some q) e l f = absurd l
    done_by (Some k) None e l f = absurd l
    done_by (Some k) (Some q) e l f = with_guest k q e l f

    pub done : (q : Option Guest) → IsLetIn p.welcome t p.guest q u → Finishes g q (waits_for e.body p.server) m x (fired ws o.events).left v n y ws' w h → IsDone g e es m s t ws ks h n y w ws'
    done q l f = done_by p.guest q refl l f

-- ---- what follows

lost_so : (a b c d e : ℕ) → e ≡ d - c → a + c ≡ b + d → e ≡ a - b
lost_so a b c d e is h = omega (arith, is, h)

module _ (g : Ground) (e : LogEntry) (es : List LogEntry) (m n : Member) (x : Store) (y : Store) (t u v : Seating Seat) (ws ws' ws'' : List Watch) (heard heard' : FinMap nat_cmp Heard) (p : Prospect) (a : Applied) where
  pub applied : IsProspect g.me g.boot x.state.sessions t ws e.body (apply x.state e).reply (apply x.state e).events p → IsDone g e es m x.state t ws p.among.conns.items a.handed n y u ws'
      → ((q : ℕ) → map.get v.sessions q ≡ served_at (map.get v.seats q)) → SameBesideIndex u v → ws'' ≡ swept v.seats ws'
      → a.ready ≡ ready_among v.seats p.among.idle.items → a.lost ≡ length (lost_among v.seats p.among.conns.items) - p.among.lost
      → heard' ≡ heard_behind g.now e.body (apply x.state e).reply (apply x.state e).state heard → a.index ≡ (apply x.state e).state.applied
      → IsApplied g e es m x t ws heard a n y v ws'' heard'
  applied is d served beside sweeps ready lost heard_so index =
      let made = made_of d.choices g e es x.state t.seats ws in
      let now : ChangedAt p.among.conns.items t.seats v.seats = subst (ChangedAt p.among.conns.items t.seats) (sym beside.0) d.table.changed in
      record {
        choices = d.choices;
        seats = beside.0 ∙ d.table.seats;
        next = beside.1.0 ∙ d.table.next;
        served = served;
        watches = sweeps ∙ ap (λ z. swept z ws') beside.0 ∙ d.table.watches ∙ ap (λ z. swept z made.table.watches) (sym beside.0);
        heard = heard_so;
        over = subst (λ (z : step.Desk). HandsOver g m z.bodies z.forwards a.handed n) d.table.desk d.over;
        at = subst (λ (z : step.Desk). AtDesk (store_behind (apply x.state e).state es) g.term g.now y z.bodies z) d.table.desk d.at;
        index = index;
        ready = ready ∙ ap (ready_among v.seats) is.among.idle ∙ sym (ready_law p.among.conns.items t.seats v.seats is.among.sorted now);
        lost = lost_so (count_lost v.seats) (count_lost t.seats) (length (lost_among t.seats p.among.conns.items)) (length (lost_among v.seats p.among.conns.items)) a.lost (lost ∙ ap (λ k. length (lost_among v.seats p.among.conns.items) - k) is.among.lost) (lost_law p.among.conns.items t.seats v.seats is.among.sorted now);
      }

-- ---- as the code has it

pub first_is : (es : List LogEntry) (e : LogEntry) → slice_get es 0 ≡ Some e → (rest : List LogEntry) × (es ≡ e ∷ rest)
first_is [] e h = no true (sym (ap is_some h)) refl
first_is (x ∷ xs) e h = (xs, ap (λ y. y ∷ xs) (ap (or_else x) h)) where
  or_else : LogEntry → Option LogEntry → LogEntry
  or_else d None = d
  or_else d (Some y) = y

the_entry : (a b : LogEntry) → Some a ≡ Some b → a ≡ b
the_entry a b h = ap (or_else a) h where
  or_else : LogEntry → Option LogEntry → LogEntry
  or_else d None = d
  or_else d (Some y) = y

the_answer : (a b : Committed) → Some a ≡ Some b → a ≡ b
the_answer a b h = ap (or_else a) h where
  or_else : Committed → Option Committed → Committed
  or_else d None = d
  or_else d (Some y) = y

-- what was done before an entry with this answer, for it and behind it
pub record Ran (g : Ground) (s : State) (m : Member) (e : LogEntry) (r : Committed) (t u v w : Seating Seat) (ws mid ws' : List Watch) (before between behind : FinMap nat_cmp Heard) (p : Prospect) (q : Option Guest) (x : Store) (n : Member) (y : Store) (h : Handed) : Type 0 where
  pub prospect : IsProspect g.me g.boot s.sessions t ws e.body r.reply r.events p
  pub let_in : IsLetIn p.welcome t p.guest q u
  pub heard : between ≡ heard_of g.now p.welcome before
  pub told : AreInformed g.me g.boot r.index e.body r.reply (fired ws r.events).pairs u.seats v.seats
  pub indexed : IsIndexed v
  pub beside : SameBeside u v
  pub watches : mid ≡ (fired ws r.events).left
  pub forgot : behind ≡ forgotten (ended_by e.body r.reply) between
  pub finish : Finishes g q (waits_for e.body p.server) m x mid v n y ws' w h

pub ran_of : (g : Ground) (s : State) (m : Member) (e : LogEntry) (r : Committed) (t u v w : Seating Seat) (ws mid ws' : List Watch) (before between behind : FinMap nat_cmp Heard) (a : Prepared) (x : Store) (n : Member) (y : Store) (h : Handed)
    → IsPrepared g s.sessions t ws e.body r.reply r.events before a u between → (fs : List Fired) → fs ≡ a.prospect.fired.items
    → ((pairs : List (ℕ × Event)) → shown r.events fs ≡ somes pairs → AreInformed g.me g.boot r.index e.body r.reply pairs u.seats v.seats) → IsIndexed v → SameBeside u v
    → mid ≡ (fired ws r.events).left → behind ≡ forgotten (ended_by e.body r.reply) between → (waits : Option ℕ) → waits ≡ waits_for e.body a.prospect.server → Finishes g a.guest waits m x mid v n y ws' w h
    → Ran g s m e r t u v w ws mid ws' before between behind a.prospect a.guest x n y h
ran_of g s m e r t u v w ws mid ws' before between behind a x n y h prepared fs same told indexed beside left forgot number is finish = record {
  prospect = prepared.prospect;
  let_in = prepared.seats;
  heard = prepared.heard;
  told = told (fired ws r.events).pairs (ap (shown r.events) same ∙ prepared.prospect.shown);
  indexed = indexed;
  beside = beside;
  watches = left;
  forgot = forgot;
  finish = subst (λ z. Finishes g a.guest z m x mid v n y ws' w h) is finish;
}

-- what telling and finishing want
pub prepared_indexed : (g : Ground) (m : Sessions) (t : Seating Seat) (ws : List Watch) (b : Body) (r : Reply) (es : List Event) (before : FinMap nat_cmp Heard) (a : Prepared) (u : Seating Seat) (between : FinMap nat_cmp Heard)
    → ((q : ℕ) → map.get t.sessions q ≡ served_at (map.get t.seats q)) → IsPrepared g m t ws b r es before a u between → IsIndexed u
prepared_indexed g m t ws b r es before a u between served h = indexed_let_in g.me g.boot m b r es t ws served a.prospect a.guest u h.prospect h.seats

pub prepared_answer : (g : Ground) (m : Sessions) (t : Seating Seat) (ws : List Watch) (b : Body) (r : Reply) (es : List Event) (before : FinMap nat_cmp Heard) (a : Prepared) (u : Seating Seat) (between : FinMap nat_cmp Heard)
    → ((q : ℕ) → map.get t.sessions q ≡ served_at (map.get t.seats q)) → IsPrepared g m t ws b r es before a u between → IsAnswerIn b r a.prospect.answer u.seats
prepared_answer g m t ws b r es before a u between served h = answer_let_in g.me g.boot m b r es t ws served a.prospect a.guest u h.prospect h.seats

pub prepared_fired : (g : Ground) (m : Sessions) (t : Seating Seat) (ws : List Watch) (b : Body) (r : Reply) (es : List Event) (before : FinMap nat_cmp Heard) (a : Prepared) (u : Seating Seat) (between : FinMap nat_cmp Heard)
    → IsPrepared g m t ws b r es before a u between → (fs : List Fired) → fs ≡ a.prospect.fired.items → (pairs : List (ℕ × Event)) × (shown es fs ≡ somes pairs)
prepared_fired g m t ws b r es before a u between h fs same = ((fired ws es).pairs, ap (shown es) same ∙ h.prospect.shown)

pub prepared_finish : (g : Ground) (m : Sessions) (t : Seating Seat) (ws : List Watch) (b : Body) (r : Reply) (es : List Event) (before : FinMap nat_cmp Heard) (a : Prepared) (u : Seating Seat) (between : FinMap nat_cmp Heard)
    → ((q : ℕ) → map.get t.sessions q ≡ served_at (map.get t.seats q)) → IsPrepared g m t ws b r es before a u between → (fs : List Fired) → fs ≡ a.prospect.fired.items
    → (zxid : ℕ) (v : Seating Seat) → ((pairs : List (ℕ × Event)) → shown es fs ≡ somes pairs → AreInformed g.me g.boot zxid b r pairs u.seats v.seats) → SameBeside u v → MayFinish a.guest v
prepared_finish g m t ws b r es before a u between served h fs same zxid v told beside =
    finish_may g.me g.boot m b r es t ws served a.prospect a.guest u h.prospect zxid v (told (fired ws es).pairs (ap (shown es) same ∙ h.prospect.shown)) beside h.seats

module _ (g : Ground) (s : State) (us : List LogEntry) (m : Member) (entry : LogEntry) (next : Committed) (t u v w : Seating Seat) (ws mid ws' : List Watch) (before between behind : FinMap nat_cmp Heard) (p : Prospect) (q : Option Guest) (x : Store) (n : Member) (y : Store) (h : Handed)
    (rest : (k : ℕ) → IsResting (map.get t.seats k)) (kept : AreKept t.seats ws) (served : (k : ℕ) → map.get t.sessions k ≡ served_at (map.get t.seats k))
    (entry_is : Some entry ≡ slice_get us 0) (next_is : Some next ≡ commit_answer s us) (left : x ≡ commit_leaves s us) (room : s.applied + length us ≤ 2 ^ 62)
    (ran : Ran g s m entry next t u v w ws mid ws' before between behind p q x n y h) where
  module _ (e : LogEntry) (es : List LogEntry) (is : us ≡ e ∷ es) where
    entry_so : entry ≡ e
    entry_so = the_entry entry e (entry_is ∙ ap (λ (l : List LogEntry). slice_get l 0) is)

    next_so : next ≡ committed_as (s.applied + 1) (apply s e)
    unfolding commit_answer
    next_so = the_answer next (committed_as (s.applied + 1) (apply s e)) (next_is ∙ ap (commit_answer s) is)

    left_so : x ≡ store_behind (apply s e).state es
    unfolding commit_leaves
    left_so = left ∙ ap (commit_leaves s) is

    ran_so : Ran g s m e (committed_as (s.applied + 1) (apply s e)) t u v w ws mid ws' before between behind p q (store_behind (apply s e).state es) n y h
    ran_so = subst (λ z. Ran g s m z (committed_as (s.applied + 1) (apply s e)) t u v w ws mid ws' before between behind p q (store_behind (apply s e).state es) n y h) entry_so
        (subst (λ z. Ran g s m entry z t u v w ws mid ws' before between behind p q (store_behind (apply s e).state es) n y h) next_so
        (subst (λ z. Ran g s m entry next t u v w ws mid ws' before between behind p q z n y h) left_so ran))

    room_so : last_of (store_behind (apply s e).state es) ≤ last_number
    room_so = let a = applied-apply s e in let l = ap (λ (z : List LogEntry). length z) is in omega (arith, a, l, room)

    pub ran_done : IsDone g e es m s t ws p.among.conns.items h n y w ws'
    ran_done = let r = ran_so in done g e es m n s y t u v w ws ws' p h (s.applied + 1) rest kept served r.prospect (sym (applied-apply s e)) r.told r.indexed r.beside room_so q r.let_in
        (subst (λ z. Finishes g q (waits_for e.body p.server) m (store_behind (apply s e).state es) z v n y ws' w h) r.watches r.finish)

    module _ (z : Seating Seat) (ws'' : List Watch) (a : Applied) (handed : a.handed ≡ h) (index : a.index ≡ next.index) where
      pub ran_applied : ((k : ℕ) → map.get z.sessions k ≡ served_at (map.get z.seats k)) → SameBesideIndex w z → ws'' ≡ swept z.seats ws'
          → a.ready ≡ ready_among z.seats p.among.idle.items → a.lost ≡ length (lost_among z.seats p.among.conns.items) - p.among.lost
          → IsApplied g e es m (record { state = s; unapplied = us }) t ws before a n y z ws'' behind
      ran_applied served' beside' sweeps ready lost = let r = ran_so in
          applied g e es m n (record { state = s; unapplied = us }) y t w z ws ws' ws'' before behind p a r.prospect
          (subst (λ k. IsDone g e es m s t ws p.among.conns.items k n y w ws') (sym handed) ran_done) served' beside' sweeps ready lost
          (r.forgot ∙ ap (forgotten (ended_by e.body (apply s e).reply)) (r.heard ∙ ap (λ k. heard_of g.now k before) r.prospect.welcome) ∙ heard_is s e g.now before (asks_session e.body) refl)
          (index ∙ ap (λ (k : Committed). k.index) next_so ∙ sym (applied-apply s e))

  -- what follows may be done
  pub ran_first : (es : List LogEntry) × IsDone g entry es m s t ws p.among.conns.items h n y w ws'
  ran_first = let f = first_is us entry (sym entry_is) in (f.0, ran_done entry f.0 f.1)

-- at most as many are found as there are
pub lost_few : (m : Seats) (ks : List ℕ) → length (lost_among m ks) ≤ length ks
lost_few m [] = omega arith
lost_few m (k ∷ ks) = by_one (was_given_up (map.get m k)) (lost_few m ks) where
  by_one : (b : Bool) → length (lost_among m ks) ≤ length ks → length (cond b (k ∷ lost_among m ks) (lost_among m ks)) ≤ length (k ∷ ks)
  by_one true l = omega (arith, l)
  by_one false l = omega (arith, l)

-- another connection at a place leaves it a place
pub swapped_there : (t u : Seating Seat) (k : ℕ) (c : Connection) → u ≡ swapped t k c (map.get t.seats k) → IsSome (map.get t.seats k) → IsSome (map.get u.seats k)
swapped_there t u k c is there = ap (λ (z : Seating Seat). is_some (map.get z.seats k)) is ∙ by_place (map.get t.seats k) there where
  by_place : (o : Option Seat) → is_some o ≡ true → is_some (map.get (swapped t k c o).seats k) ≡ true
  by_place None h = no false refl h
  by_place (Some s) h = ap is_some (get-put t.seats k (seated s c) k ∙ ap (λ b. cond b (Some (seated s c)) (map.get t.seats k)) (nat_eq_equiv.refl k))
