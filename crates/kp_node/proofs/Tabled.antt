-- Connections that were told of an entry, and the one that was answered, are the table of the definition.
use Rattle.std.proofs.Common.{◌≡◌, ℕ, Bool, true, false, cond, not, List, Option, Some, None, is_some, refl, ap, sym, subst, ◌∙◌}
use Rattle.std.specs.Prelude.{nat_eq, if◌then◌else◌}
use Rattle.std.specs.Option.{option_map}
use Rattle.std.specs.Ordering.{nat_cmp, eq_by_cmp}
use Rattle.std.specs.Cmp.{nat_eq_equiv, unsigned_tied}
use Rattle.std.specs.FinMap as map
use Rattle.kp_model.specs.declared.command.Cmd.{Cmd}
use Rattle.kp_model.specs.declared.entry.Body.{Body}
use Rattle.kp_model.specs.declared.entry.Body.TheVariants as body
use Rattle.kp_model.specs.declared.reply.Event.{Event}
use Rattle.kp_model.specs.declared.reply.Reply.{Reply}
use Rattle.kp_model.specs.State.{State}
use Rattle.kp_model.specs.Step.{Outcome}
use Rattle.kp_seats.specs.Seating.{Seating}
use Rattle.kp_seats.specs.Serving.{IsServer, is_that, serves}
use Rattle.kp_seats.specs.Walked.{IsStep, Becomes, SameBeside}
use Rattle.kp_watch.specs.declared.watch.Watch.{Watch}
use Rattle.kp_watch.specs.Watching.{fired, dropped}
use Rattle.kp_conn.specs.declared.phase.Phase.{Phase}
use Rattle.kp_conn.specs.declared.phase.Phase.TheVariants as phase
use Rattle.kp_conn.specs.Connection.{Connection, is_lost, is_over}
use Rattle.kp_step.specs.declared.seat.Seat.{Seat}
use Rattle.kp_step.specs.Choices.{Choices}
use Rattle.kp_step.specs.Handing as step
use Rattle.kp_step.specs.Node.{Seats}
use Rattle.kp_step.specs.Settling.{Settled, stays, settled, given_out}
use Rattle.kp_step.specs.Step.{swept, keeps_watches}
use Rattle.kp_step.specs.Tables.{Table, row_at, mapped, seated, settled_all, with_row}
use Rattle.kp_step.specs.Committing.{Greeting, is_of, packets_for, hears, meaning, written_to, session_of, greeted, greeted_by, greeted_at, greeted_in as greeted_by_phase, settled_behind}
use Rattle.kp_step.proofs.Tables.{get-mapped, insert-same}
use Rattle.kp_model.specs.Taken.{is_stale}
use Rattle.kp_node.specs.Applied.{told_in, greeted_in, SettlesSome}
use Rattle.kp_node.specs.Deciding.{kept_watches}
use Rattle.kp_node.specs.Ending.{SeatSettles}
use Rattle.kp_node.specs.Informing.{AreInformed}
use Rattle.kp_node.specs.Meaning.{IsIndexed}
use Rattle.kp_node.specs.Prospects.{newcomer_by, is_connecting, is_write, waits_at, guest_in}
use Rattle.kp_node.specs.Resting.{IsResting, OthersRest}
use Rattle.kp_node.proofs.Changed.{turn_sweeps}
use Rattle.kp_node.proofs.Ends.{settled_law}
use Rattle.kp_node.proofs.Maps.{no, get-put, same, same_number}
use Rattle.kp_node.proofs.Meant.{not_its}
use Rattle.kp_node.proofs.Resting.{all-rest}
use Rattle.kp_node.proofs.Rows.{row_off, row_rests, write_rests}

-- ---- one place

once : (f g : Seat → Seat) (o : Option Seat) → option_map g (option_map f o) ≡ option_map (λ s. g (f s)) o
once f g None = refl
once f g (Some s) = refl

-- one of them changed, and this is what it holds
pub stepped_seats : (R : ℕ → Seat → Seat → Type 0) (k : ℕ) (t u : Seating Seat) → IsStep R k t u → (y : Seat) → map.get u.seats k ≡ Some y → u.seats ≡ map.insert t.seats k y
stepped_seats R k t u h y there = same _ _ (λ q. at q (nat_eq k q) refl ∙ sym (get-put t.seats k y q)) where
  at : (q : ℕ) (b : Bool) → nat_eq k q ≡ b → map.get u.seats q ≡ cond b (Some y) (map.get t.seats q)
  at q true e = ap (map.get u.seats) (sym (same_number k q e)) ∙ there
  at q false e = h.others q (λ p. no (nat_eq k q) e (ap (nat_eq k) p ∙ nat_eq_equiv.refl k))

module _ (me boot zxid : ℕ) (b : Body) (r : Reply) (pairs : List (ℕ × Event)) where
  abbrev pub rows : Choices → ℕ → Seat → Seat
  rows ch k s = row_at (meaning ch me boot zxid b r) k (row_at (hears ch pairs) k s)

  abbrev pub rowed : Choices → Seats → Seats
  rowed ch m = mapped (row_at (meaning ch me boot zxid b r)) (mapped (row_at (hears ch pairs)) m)

  pub at_rows : (ch : Choices) (m : Seats) (q : ℕ) → map.get (rowed ch m) q ≡ option_map (rows ch q) (map.get m q)
  at_rows ch m q = get-mapped (row_at (meaning ch me boot zxid b r)) (mapped (row_at (hears ch pairs)) m) q
      ∙ ap (option_map (row_at (meaning ch me boot zxid b r) q)) (get-mapped (row_at (hears ch pairs)) m q)
      ∙ once (row_at (hears ch pairs) q) (row_at (meaning ch me boot zxid b r) q) (map.get m q)

  -- one that doesn't wait for the reply to its connect request won't
  off_at : (ch : Choices) (k : ℕ) (o : Option Seat) → waits_at o ≡ false → waits_at (option_map (rows ch k) o) ≡ false
  off_at ch k None h = refl
  off_at ch k (Some s) h = row_off ch me boot zxid b r pairs k s.connection h

  pub rests_at : (ch : Choices) (k : ℕ) → is_write b ≡ false → (o : Option Seat) → IsResting o → IsResting (option_map (rows ch k) o)
  rests_at ch k no_write None h = tt
  rests_at ch k no_write (Some s) h = row_rests ch me boot zxid b r pairs k no_write s.connection h

-- ---- the greeting

guest_off : (k : ℕ) (b : Bool) → (if b then Some k else None) ≡ None → b ≡ false
guest_off k true h = no true (ap is_some h) refl
guest_off k false h = refl

module _ (ch : Choices) (g : step.Ground) (d : step.Desk) (t : Table) (id : Option ℕ) where
  abbrev ungreeted : Greeting
  ungreeted = record { table = t; desk = d }

  by_phase_off : (k : ℕ) (x : Seat) (p : Phase) → is_connecting p ≡ false → greeted_by_phase ch g d t id k x p ≡ ungreeted
  by_phase_off k x phase.Fresh h = refl
  by_phase_off k x (phase.Connecting ro) h = no true h refl
  by_phase_off k x (phase.Live s e n) h = refl
  by_phase_off k x (phase.Closing lost) h = refl

  at_off : (k : ℕ) (o : Option Seat) → waits_at o ≡ false → greeted_at ch g d t id k o ≡ ungreeted
  at_off k None h = refl
  at_off k (Some x) h = by_phase_off k x x.connection.phase h

-- where nobody waits for the entry, nobody is greeted
module _ (ch : Choices) (g : step.Ground) (d : step.Desk) (me boot : ℕ) (seats : Seats) (ws : List Watch) (b : Body) (o : Outcome) where
  abbrev told : Table
  told = told_in ch me boot seats ws b o

  told_at : (q : ℕ) → map.get told.seats q ≡ option_map (rows me boot o.state.applied b o.reply (fired ws o.events).pairs ch q) (map.get seats q)
  unfolding with_row
  told_at q = at_rows me boot o.state.applied b o.reply (fired ws o.events).pairs ch seats q

  by_newcomer : (c : Option ℕ) → guest_in seats c ≡ None → greeted_by ch g d told (session_of b o.reply) c ≡ record { table = told; desk = d }
  by_newcomer None h = refl
  by_newcomer (Some k) h = at_off ch g d told (session_of b o.reply) k (map.get told.seats k)
      (ap waits_at (told_at k) ∙ off_at me boot o.state.applied b o.reply (fired ws o.events).pairs ch k (map.get seats k) (guest_off k (waits_at (map.get seats k)) h))

  pub none_greeted : guest_in seats (newcomer_by me boot b o.reply) ≡ None → greeted_in ch g d me boot seats ws b o ≡ record { table = told; desk = d }
  unfolding greeted
  none_greeted h = by_newcomer (newcomer_by me boot b o.reply) h

-- ---- the answers

-- where all rest, nobody is answered
pub none_settled : (ch : Choices) (s : State) (g : Greeting) → ((q : ℕ) → IsResting (map.get g.table.seats q)) → settled_behind ch s g ≡ g
none_settled ch s g h = λ i. record { table = all-rest ch s g.table (map.keys g.table.seats) h i; desk = g.desk }

-- ---- by luck

module _ (me boot zxid : ℕ) (b : Body) (r : Reply) (pairs : List (ℕ × Event)) (old new : Seats) (told : AreInformed me boot zxid b r pairs old new) where
  -- what is at a place
  pub by_luck : (ch : Choices) (q : ℕ) → (ch.luck q).events ≡ (told q).0 → (ch.luck q).answers ≡ (told q).1 → option_map (rows me boot zxid b r pairs ch q) (map.get old q) ≡ map.get new q
  by_luck ch q e a = sym ((told q).2 ch e a)

  abbrev pub chosen : Choices
  chosen = record { room = None; luck = λ q. record { events = (told q).0; requests = None; answers = (told q).1 } }

  pub chosen_seats : rowed me boot zxid b r pairs chosen old ≡ new
  chosen_seats = same _ _ (λ q. at_rows me boot zxid b r pairs chosen old q ∙ by_luck chosen q refl refl)

  -- one that rested rests where the entry is no write
  pub told_rests : is_write b ≡ false → ((q : ℕ) → IsResting (map.get old q)) → (q : ℕ) → IsResting (map.get new q)
  told_rests no_write h q = subst IsResting (by_luck chosen q refl refl) (rests_at me boot zxid b r pairs chosen q no_write (map.get old q) (h q))

-- ---- a write

same_map : (f g : Seat → Seat) → ((s : Seat) → f s ≡ g s) → (o : Option Seat) → option_map f o ≡ option_map g o
same_map f g h None = refl
same_map f g h (Some s) = ap Some (h s)

lost_not : (session : ℕ) (p : Phase) → is_lost p ≡ true → is_of session p ≡ false
lost_not session phase.Fresh h = no false refl h
lost_not session (phase.Connecting ro) h = no false refl h
lost_not session (phase.Live s e n) h = no false refl h
lost_not session (phase.Closing lost) h = refl

-- whether a connection that is there serves the session
abbrev of_at : ℕ → Option Seat → Bool
of_at session None = false
of_at session (Some s) = is_of session s.connection.phase

module _ (me boot zxid session epoch seq : ℕ) (c : Cmd) (r : Reply) (pairs : List (ℕ × Event)) where
  abbrev write : Body
  write = body.Write session epoch seq c

  -- what a write means for a connection takes no luck
  module _ (k : ℕ) (s : Seat) where
    heard : Option ℕ → Connection
    heard n = (if is_over s.connection.phase then stays s.connection else stays (given_out n (packets_for k pairs) s.connection)).connection

    meant : Connection → Settled
    meant d = if is_stale r then stays d else written_to session epoch seq r d

    luckless : (ch ch' : Choices) → (ch.luck k).events ≡ (ch'.luck k).events → rows me boot zxid write r pairs ch k s ≡ rows me boot zxid write r pairs ch' k s
    unfolding meaning heard meant
    luckless ch ch' e = ap (λ n. seated s (meant (heard n)).connection) e

  write_rests_at : (ch : Choices) (k : ℕ) (o : Option Seat) → IsResting o → of_at session (option_map (rows me boot zxid write r pairs ch k) o) ≡ false → IsResting (option_map (rows me boot zxid write r pairs ch k) o)
  write_rests_at ch k None h f = tt
  write_rests_at ch k (Some s) h f = write_rests ch me boot zxid session epoch seq c r pairs k s.connection f h

  module _ (old new : Seats) (told : AreInformed me boot zxid write r pairs old new) where
    abbrev pub answering : Option ℕ → Choices
    answering n = record { room = None; luck = λ q. record { events = (told q).0; requests = None; answers = n } }

    by_events : (n : Option ℕ) (q : ℕ) → option_map (rows me boot zxid write r pairs (answering n) q) (map.get old q) ≡ map.get new q
    by_events n q =
        let ch = chosen me boot zxid write r pairs old new told in
        same_map _ _ (λ s. luckless q s (answering n) ch refl) (map.get old q) ∙ by_luck me boot zxid write r pairs old new told ch q refl refl

    pub answering_seats : (n : Option ℕ) → rowed me boot zxid write r pairs (answering n) old ≡ new
    answering_seats n = same _ _ (λ q. at_rows me boot zxid write r pairs (answering n) old q ∙ by_events n q)

    rests_here : (q : ℕ) → IsResting (map.get old q) → of_at session (map.get new q) ≡ false → IsResting (map.get new q)
    rests_here q h f = subst IsResting (by_events None q) (write_rests_at (answering None) q (map.get old q) h (ap (of_at session) (by_events None q) ∙ f))

  module _ (t u : Seating Seat) (told : AreInformed me boot zxid write r pairs t.seats u.seats) (rest : (q : ℕ) → IsResting (map.get t.seats q))
      (indexed : IsIndexed u) (beside : SameBeside t u) (server : Option ℕ) (is : IsServer t.sessions session server) where
    unserved : (q : ℕ) (o : Option ℕ) → IsServer t.sessions session o → is_that o q ≡ false → serves u.sessions session q ≡ false
    unserved q None h e = ap (λ m. serves m session q) beside.1 ∙ h q
    unserved q (Some k) h e = ap (λ m. serves m session q) beside.1 ∙ h q ∙ e

    not_of : (q : ℕ) (o : Option Seat) → map.get u.seats q ≡ o → is_that server q ≡ false → of_at session o ≡ false
    not_of q None there e = refl
    not_of q (Some x) there e = not_its u session indexed q x (unserved q server is e) there

    -- all others rest
    pub others_rest : (q : ℕ) → is_that server q ≡ false → IsResting (map.get u.seats q)
    others_rest q e = rests_here t.seats u.seats told q (rest q) (not_of q (map.get u.seats q) refl e)

    -- and so does one that was given up
    pub lost_rests : (q : ℕ) (x : Seat) → map.get u.seats q ≡ Some x → is_lost x.connection.phase ≡ true → IsResting (map.get u.seats q)
    lost_rests q x there l = rests_here t.seats u.seats told q (rest q) (ap (of_at session) there ∙ lost_not session x.connection.phase l)

-- ---- the one that is answered

-- what a place without a connection becomes
none_there : (R : ℕ → Seat → Seat → Type 0) (k : ℕ) (t u : Seating Seat) → IsStep R k t u → map.get t.seats k ≡ None → u.seats ≡ t.seats
none_there R k t u h e = same _ _ (λ q. at q (nat_eq k q) refl) where
  here : map.get u.seats k ≡ None
  here = let b = h.here in subst (λ o. Becomes (R k) o (map.get u.seats k)) e b

  at : (q : ℕ) (b : Bool) → nat_eq k q ≡ b → map.get u.seats q ≡ map.get t.seats q
  at q true f = subst (λ j. map.get u.seats j ≡ map.get t.seats j) (same_number k q f) (here ∙ sym e)
  at q false f = h.others q (λ p. no (nat_eq k q) f (ap (nat_eq k) p ∙ nat_eq_equiv.refl k))

-- the watches of a connection that was given up go, or went before
pub kept_sweeps : (m : Seats) (k : ℕ) (s : Seat) (ws : List Watch) → map.get m k ≡ Some s → swept m (kept_watches k s.connection.phase ws) ≡ swept m ws
kept_sweeps m k s ws there = at (is_lost s.connection.phase) refl where
  at : (b : Bool) → is_lost s.connection.phase ≡ b → swept m (if b then dropped ws k else ws) ≡ swept m ws
  at true e = turn_sweeps m k false ws (ap keeps_watches there ∙ ap not e)
  at false e = refl

-- the table behind an answer
pub record IsAnswered (ch : Choices) (s : State) (t : Table) (v : Seating Seat) (ws : List Watch) : Type 0 where
  pub seats : v.seats ≡ (settled_all ch s t (map.keys t.seats)).seats
  pub watches : swept v.seats ws ≡ swept v.seats (settled_all ch s t (map.keys t.seats)).watches

module _ (s : State) (ws ws' : List Watch) (u v : Seating Seat) where
  -- nobody is answered
  pub idle : (ch : Choices) (t : Table) → t.seats ≡ u.seats → t.watches ≡ ws → v.seats ≡ u.seats → ws' ≡ ws → ((q : ℕ) → IsResting (map.get u.seats q)) → IsAnswered ch s t v ws'
  idle ch t same_seats same_watches still kept rest =
      let all : settled_all ch s t (map.keys t.seats) ≡ t = all-rest ch s t (map.keys t.seats) (λ q. subst (λ m. IsResting (map.get m q)) (sym same_seats) (rest q)) in record {
        seats = still ∙ sym same_seats ∙ ap (λ (x : Table). x.seats) (sym all);
        watches = ap (swept v.seats) (kept ∙ sym same_watches ∙ ap (λ (x : Table). x.watches) (sym all));
      }

  module _ (k : ℕ) (x : Seat) (there : map.get u.seats k ≡ Some x) (d : Connection) (n : Option ℕ) where
    abbrev r : Settled
    r = settled s k n ws x.connection x.connection.queue

    busy : v.seats ≡ map.insert u.seats k (seated x d) → d ≡ r.connection → ws' ≡ kept_watches k d.phase r.watches
        → (ch : Choices) (t : Table) → (ch.luck k).answers ≡ n → t.seats ≡ u.seats → t.watches ≡ ws → OthersRest u.seats k → IsAnswered ch s t v ws'
    busy put is kept ch t lucky same_seats same_watches rest =
        let made = settled_law ch s t k x (λ j e. subst (λ m. IsResting (map.get m j)) (sym same_seats) (rest j e)) (ap (λ m. map.get m k) same_seats ∙ there) in
        let same : settled s k (ch.luck k).answers t.watches x.connection x.connection.queue ≡ r = λ i. settled s k (lucky i) (same_watches i) x.connection x.connection.queue in
        let here : map.get v.seats k ≡ Some (seated x d) = ap (λ m. map.get m k) put ∙ get-put u.seats k (seated x d) k ∙ ap (λ b. cond b (Some (seated x d)) (map.get u.seats k)) (nat_eq_equiv.refl k) in record {
          seats = put ∙ (λ i. map.insert (sym same_seats i) k (seated x ((is ∙ ap (λ (y : Settled). y.connection) (sym same)) i))) ∙ sym made.0;
          watches = ap (swept v.seats) kept ∙ kept_sweeps v.seats k (seated x d) r.watches here ∙ ap (λ (y : Settled). swept v.seats y.watches) (sym same) ∙ ap (swept v.seats) (sym made.1);
        }

apart_in : (k j : ℕ) → eq_by_cmp nat_cmp j k ≡ false → nat_eq k j ≡ false
apart_in k j e = nat_eq_equiv.symm k j ∙ sym (unsigned_tied j k) ∙ e

-- a write's connection was answered, or there is none
module _ (me boot session epoch seq : ℕ) (c : Cmd) (o : Outcome) (ws ws' : List Watch) (t u v : Seating Seat) where
  abbrev pairs : List (ℕ × Event)
  pairs = (fired ws o.events).pairs

  abbrev written : Body
  written = body.Write session epoch seq c

  module _ (told : AreInformed me boot o.state.applied written o.reply pairs t.seats u.seats) (rest : (q : ℕ) → IsResting (map.get t.seats q)) (indexed : IsIndexed u) (beside : SameBeside t u) where
    abbrev by : Option ℕ → Choices
    by n = answering me boot o.state.applied session epoch seq c o.reply pairs t.seats u.seats told n

    abbrev table : Option ℕ → Table
    table n = told_in (by n) me boot t.seats ws written o

    seats_are : (n : Option ℕ) → (table n).seats ≡ u.seats
    unfolding with_row
    seats_are n = answering_seats me boot o.state.applied session epoch seq c o.reply pairs t.seats u.seats told n

    watches_are : (n : Option ℕ) → (table n).watches ≡ (fired ws o.events).left
    unfolding with_row
    watches_are n = refl

    abbrev Made : Type 0
    Made = (n : Option ℕ) × IsAnswered (by n) o.state (table n) v ws'

    module _ (k : ℕ) (is : IsServer t.sessions session (Some k)) (step : IsStep (SeatSettles o.state (fired ws o.events).left ws') k u v) where
      all_but : (q : ℕ) → nat_eq k q ≡ false → IsResting (map.get u.seats q)
      all_but q e = others_rest me boot o.state.applied session epoch seq c o.reply pairs t u told rest indexed beside (Some k) is q e

      resting : IsResting (map.get u.seats k) → (q : ℕ) → IsResting (map.get u.seats q)
      resting h q = at (nat_eq k q) refl where
        at : (b : Bool) → nat_eq k q ≡ b → IsResting (map.get u.seats q)
        at true e = subst (λ j. IsResting (map.get u.seats j)) (same_number k q e) h
        at false e = all_but q e

      at_none : map.get u.seats k ≡ None → (map.get u.seats k ≡ None → ws' ≡ (fired ws o.events).left) → Made
      at_none there kept = (None, idle o.state (fired ws o.events).left ws' u v (by None) (table None) (seats_are None) (watches_are None) (none_there _ k u v step there) (kept there) (resting (subst IsResting (sym there) tt)))

      at_some : (x y : Seat) → map.get u.seats k ≡ Some x → map.get v.seats k ≡ Some y → SeatSettles o.state (fired ws o.events).left ws' k x y → (l : Bool) → is_lost x.connection.phase ≡ l → Made
      at_some x y there now h true e =
          let still : v.seats ≡ u.seats = stepped_seats _ k u v step y now ∙ ap (map.insert u.seats k) ((h.1 e).0) ∙ insert-same u.seats k x there in (
            None,
            idle o.state (fired ws o.events).left ws' u v (by None) (table None) (seats_are None) (watches_are None) still (h.1 e).1
                (resting (lost_rests me boot o.state.applied session epoch seq c o.reply pairs t u told rest indexed beside (Some k) is k x there e)),
          )
      at_some x y there now h false e =
          let z = h.0 e in (
            z.1.1.0,
            busy o.state (fired ws o.events).left ws' u v k x there z.0 z.1.1.0 (stepped_seats _ k u v step y now ∙ ap (map.insert u.seats k) z.1.0) z.1.1.1.0 z.1.1.1.1
                (by z.1.1.0) (table z.1.1.0) refl (seats_are z.1.1.0) (watches_are z.1.1.0) (λ j f. all_but j (apart_in k j f)),
          )

      at_place : (p : Option Seat) → map.get u.seats k ≡ p → Becomes (SeatSettles o.state (fired ws o.events).left ws' k) p (map.get v.seats k) → (map.get u.seats k ≡ None → ws' ≡ (fired ws o.events).left) → Made
      at_place None there b kept = at_none there kept
      at_place (Some x) there b kept = at_some x b.0 there b.1 b.2 (is_lost x.connection.phase) refl

    pub write_answered : (server : Option ℕ) → IsServer t.sessions session server → SettlesSome o.state (fired ws o.events).left ws' server u v → Made
    write_answered None is h = (
      None,
      idle o.state (fired ws o.events).left ws' u v (by None) (table None) (seats_are None) (watches_are None) (ap (λ (z : Seating Seat). z.seats) h.0) h.1
          (λ q. others_rest me boot o.state.applied session epoch seq c o.reply pairs t u told rest indexed beside None is q refl),
    )
    write_answered (Some k) is h = at_place k is h.0 (map.get u.seats k) refl h.0.here h.1
