-- Behind an entry that nobody waits for: what its write's answer leaves as it was.
use Rattle.std.proofs.Common.{◌≡◌, ℕ, Bool, true, false, List, Option, Some, None, is_some, refl, ap, sym, subst, ◌∙◌}
use Rattle.std.specs.Prelude.{nat_eq, if◌then◌else◌}
use Rattle.std.specs.List.{list_any}
use Rattle.std.specs.Cmp.{nat_eq_equiv}
use Rattle.std.specs.FinMap as map
use Rattle.kp_model.specs.declared.entry.Body.{Body}
use Rattle.kp_model.specs.declared.entry.Body.TheVariants as body
use Rattle.kp_model.specs.State.{State}
use Rattle.kp_model.specs.Step.{Outcome}
use Rattle.kp_seats.specs.Seating.{Seating}
use Rattle.kp_seats.specs.Serving.{is_that}
use Rattle.kp_seats.specs.Walked.{Becomes, SameBeside}
use Rattle.kp_watch.specs.declared.watch.Fired.{Fired}
use Rattle.kp_watch.specs.declared.watch.Watch.{Watch}
use Rattle.kp_watch.specs.Watching.{fired, shown, somes}
use Rattle.kp_conn.specs.Connection.{Connection, is_lost}
use Rattle.kp_step.specs.declared.seat.Seat.{Seat}
use Rattle.kp_step.specs.Choices.{Choices}
use Rattle.kp_step.specs.Handing as step
use Rattle.kp_step.specs.Node.{Seats}
use Rattle.kp_step.specs.Settling.{settled}
use Rattle.kp_step.specs.Step.{swept}
use Rattle.kp_step.specs.Tables.{with_row}
use Rattle.kp_step.specs.Committing.{Greeting, settled_behind}
use Rattle.kp_node.specs.Applied.{told_in, made_in, waits_for, SettlesSome, IsTable}
use Rattle.kp_node.specs.Changing.{ChangedAt, AreKeptBut}
use Rattle.kp_node.specs.Concerned.{HasConcerned, subject, IsSubject}
use Rattle.kp_node.specs.Ending.{SeatSettles}
use Rattle.kp_node.specs.Holding.{AreKept, served_by, served_at}
use Rattle.kp_node.specs.Indexing.{IsServedBut}
use Rattle.kp_node.specs.Informing.{AreInformed}
use Rattle.kp_node.specs.Meaning.{IsIndexed}
use Rattle.kp_node.specs.Prospects.{newcomer_by, is_write, guest_in}
use Rattle.kp_node.specs.Resting.{IsResting}
use Rattle.kp_node.proofs.Concerns.{informed_law}
use Rattle.kp_node.proofs.Informed.{not_over}
use Rattle.kp_node.proofs.Lasting.{settled_goes, settled_own}
use Rattle.kp_node.proofs.Maps.{no, same_number}
use Rattle.kp_node.proofs.Placed.{kept_own, kept_fewer, kept_changed, listed}
use Rattle.kp_node.proofs.Staying.{left_all}
use Rattle.kp_node.proofs.Tabled.{none_greeted, chosen, chosen_seats, told_rests, answering, IsAnswered, idle, write_answered}

-- ---- one connection that is answered

module _ (s : State) (ws ws' : List Watch) (k : ℕ) (x y : Seat) (h : SeatSettles s ws ws' k x y) where
  settles_serves : (l : Bool) → is_lost x.connection.phase ≡ l → (i : ℕ) → served_by y.connection.phase ≡ Some i → served_by x.connection.phase ≡ Some i
  settles_serves true e i at = ap (λ (z : Seat). served_by z.connection.phase) (sym (h.1 e).0) ∙ at
  settles_serves false e i at =
      let z = h.0 e in
      let c = settled s k z.1.1.0 ws x.connection x.connection.queue in
      let now : served_by c.connection.phase ≡ Some i = ap (λ (d : Connection). served_by d.phase) (sym z.1.1.1.0) ∙ ap (λ (w : Seat). served_by w.connection.phase) (sym z.1.0) ∙ at in
      sym ((settled_goes s k z.1.1.0 ws x.connection x.connection x.connection.queue refl).session (not_over c.connection.phase i now)) ∙ now

  settles_watches : (ks : List ℕ) (m : Seats) → list_any (nat_eq k) ks ≡ true → (l : Bool) → is_lost x.connection.phase ≡ l → AreKeptBut ks m ws → AreKeptBut ks m ws'
  settles_watches ks m there true e h' = subst (AreKeptBut ks m) (sym (h.1 e).1) h'
  settles_watches ks m there false e h' =
      let z = h.0 e in
      let r = settled s k z.1.1.0 ws x.connection x.connection.queue in
      subst (AreKeptBut ks m) (sym z.1.1.1.1) (kept_fewer ks m k z.0.phase r.watches (kept_own ks m k ws r.watches there (settled_own s k z.1.1.0 ws x.connection x.connection.queue) h'))

-- ---- where there is one

apart : (k q : ℕ) → nat_eq k q ≡ false → q ≡ k → ⊥
apart k q e p = no (nat_eq k q) e (ap (nat_eq k) p ∙ nat_eq_equiv.refl k)

module _ (s : State) (ws ws' : List Watch) (u v : Seating Seat) where
  some_others : (w : Option ℕ) → SettlesSome s ws ws' w u v → (q : ℕ) → is_that w q ≡ false → map.get v.seats q ≡ map.get u.seats q
  some_others None h q e = ap (λ (z : Seating Seat). map.get z.seats q) h.0
  some_others (Some k) h q e = h.0.others q (apart k q e)

  some_beside : (w : Option ℕ) → SettlesSome s ws ws' w u v → SameBeside u v
  some_beside None h = (ap (λ (z : Seating Seat). z.next) h.0, ap (λ (z : Seating Seat). z.sessions) h.0, ap (λ (z : Seating Seat). z.has_room) h.0)
  some_beside (Some k) h = h.0.beside

  there_at : (k : ℕ) (o p : Option Seat) → Becomes (SeatSettles s ws ws' k) o p → is_some p ≡ is_some o
  there_at k None p b = ap is_some b
  there_at k (Some x) p b = ap is_some b.1

  serves_at : (k : ℕ) (o p : Option Seat) → Becomes (SeatSettles s ws ws' k) o p → (i : ℕ) → served_at p ≡ Some i → served_at o ≡ Some i
  serves_at k None p b i at = sym (ap served_at b) ∙ at
  serves_at k (Some x) p b i at = settles_serves s ws ws' k x b.0 b.2 (is_lost x.connection.phase) refl i (sym (ap served_at b.1) ∙ at)

  some_there : (w : Option ℕ) → SettlesSome s ws ws' w u v → (q : ℕ) → is_some (map.get v.seats q) ≡ is_some (map.get u.seats q)
  some_there None h q = ap (λ (z : Seating Seat). is_some (map.get z.seats q)) h.0
  some_there (Some k) h q = at (nat_eq k q) refl where
    at : (b : Bool) → nat_eq k q ≡ b → is_some (map.get v.seats q) ≡ is_some (map.get u.seats q)
    at true e = subst (λ j. is_some (map.get v.seats j) ≡ is_some (map.get u.seats j)) (same_number k q e) (there_at k (map.get u.seats k) (map.get v.seats k) h.0.here)
    at false e = ap is_some (h.0.others q (apart k q e))

  some_serves : (w : Option ℕ) → SettlesSome s ws ws' w u v → (q i : ℕ) → served_at (map.get v.seats q) ≡ Some i → served_at (map.get u.seats q) ≡ Some i
  some_serves None h q i e = ap (λ (z : Seating Seat). served_at (map.get z.seats q)) (sym h.0) ∙ e
  some_serves (Some k) h q i e = at (nat_eq k q) refl e where
    at : (b : Bool) → nat_eq k q ≡ b → served_at (map.get v.seats q) ≡ Some i → served_at (map.get u.seats q) ≡ Some i
    at true f g = subst (λ j. served_at (map.get v.seats j) ≡ Some i → served_at (map.get u.seats j) ≡ Some i) (same_number k q f) (serves_at k (map.get u.seats k) (map.get v.seats k) h.0.here i) g
    at false f g = ap served_at (sym (h.0.others q (apart k q f))) ∙ g

  watches_at : (ks : List ℕ) (m : Seats) (k : ℕ) → list_any (nat_eq k) ks ≡ true → (o p : Option Seat) → Becomes (SeatSettles s ws ws' k) o p → (o ≡ None → ws' ≡ ws) → AreKeptBut ks m ws → AreKeptBut ks m ws'
  watches_at ks m k there None p b none h = subst (AreKeptBut ks m) (sym (none refl)) h
  watches_at ks m k there (Some x) p b none h = settles_watches s ws ws' k x b.0 b.2 ks m there (is_lost x.connection.phase) refl h

  some_watches : (ks : List ℕ) (m : Seats) (w : Option ℕ) → ((q : ℕ) → list_any (nat_eq q) ks ≡ false → is_that w q ≡ false) → SettlesSome s ws ws' w u v → AreKeptBut ks m ws → AreKeptBut ks m ws'
  some_watches ks m None out h k = subst (AreKeptBut ks m) (sym h.1) k
  some_watches ks m (Some j) out h k = watches_at ks m j (listed ks j out) (map.get u.seats j) (map.get v.seats j) h.0.here h.1 k

-- ---- all of it

waits_out : (b : Bool) (server : Option ℕ) (q : ℕ) → is_that server q ≡ false → is_that (if b then server else None) q ≡ false
waits_out true server q e = e
waits_out false server q e = refl

module _ (me boot : ℕ) (sg : step.Ground) (d : step.Desk) (b : Body) (o : Outcome) (fs : List Fired) (server : Option ℕ) (ks : List ℕ) (ws ws' : List Watch) (t u v : Seating Seat)
    (rest : (q : ℕ) → IsResting (map.get t.seats q)) (kept : AreKept t.seats ws) (served : (q : ℕ) → map.get t.sessions q ≡ served_at (map.get t.seats q))
    (subject_is : IsSubject t (subject b) server) (guest : Option ℕ) (all : HasConcerned fs server guest ks) (shows : shown o.events fs ≡ somes (fired ws o.events).pairs)
    (none : guest_in t.seats (newcomer_by me boot b o.reply) ≡ None)
    (told : AreInformed me boot o.state.applied b o.reply (fired ws o.events).pairs t.seats u.seats) (indexed : IsIndexed u) (beside : SameBeside t u)
    (settles : SettlesSome o.state (fired ws o.events).left ws' (waits_for b server) u v) where
  out : (q : ℕ) → list_any (nat_eq q) ks ≡ false → is_that (waits_for b server) q ≡ false
  out q e = waits_out (is_write b) server q (all.server q e)

  indexed_before : IsIndexed t
  indexed_before q s at = served q ∙ at

  told_changed : ChangedAt ks t.seats u.seats
  told_changed = informed_law me boot o.state.applied b o.reply o.events fs (fired ws o.events).pairs server guest ks t u.seats indexed_before shows subject_is all told

  changed : ChangedAt ks t.seats v.seats
  changed = record {
    same = λ q e. some_others o.state (fired ws o.events).left ws' u v (waits_for b server) settles q (out q e) ∙ told_changed.same q e;
    there = λ q. some_there o.state (fired ws o.events).left ws' u v (waits_for b server) settles q ∙ told_changed.there q;
  }

  sessions_are : v.sessions ≡ t.sessions
  sessions_are = (some_beside o.state (fired ws o.events).left ws' u v (waits_for b server) settles).1 ∙ beside.1

  indexed_behind : IsIndexed v
  indexed_behind q i at = ap (λ m. map.get m q) (some_beside o.state (fired ws o.events).left ws' u v (waits_for b server) settles).1
      ∙ indexed q i (some_serves o.state (fired ws o.events).left ws' u v (waits_for b server) settles q i at)

  served_behind : IsServedBut ks v
  served_behind q e = ap (λ m. map.get m q) sessions_are ∙ served q ∙ ap served_at (sym (changed.same q e))

  kept_behind : AreKeptBut ks v.seats ws'
  kept_behind = some_watches o.state (fired ws o.events).left ws' u v ks v.seats (waits_for b server) out settles
      (kept_changed ks t.seats v.seats changed (fired ws o.events).left (left_all _ ws o.events kept))

  abbrev AnsweredBy : Choices → Type 0
  AnsweredBy ch = IsAnswered ch o.state (told_in ch me boot t.seats ws b o) v ws'

  table_by : (ch : Choices) → AnsweredBy ch → IsTable ks t (made_in ch sg d me boot t.seats ws b o) v ws' d
  table_by ch h =
      let made : made_in ch sg d me boot t.seats ws b o ≡ settled_behind ch o.state (record { table = told_in ch me boot t.seats ws b o; desk = d }) = ap (settled_behind ch o.state) (none_greeted ch sg d me boot t.seats ws b o none) in record {
        seats = h.seats ∙ ap (λ (g : Greeting). g.table.seats) (sym made);
        next = (some_beside o.state (fired ws o.events).left ws' u v (waits_for b server) settles).0 ∙ beside.0;
        watches = h.watches ∙ ap (λ (g : Greeting). swept v.seats g.table.watches) (sym made);
        desk = ap (λ (g : Greeting). g.desk) (sym made);
        changed = changed;
        kept = kept_behind;
        indexed = indexed_behind;
        served = served_behind;
      }

  abbrev fresh : Choices
  fresh = chosen me boot o.state.applied b o.reply (fired ws o.events).pairs t.seats u.seats told

  fresh_seats : (told_in fresh me boot t.seats ws b o).seats ≡ u.seats
  unfolding with_row
  fresh_seats = chosen_seats me boot o.state.applied b o.reply (fired ws o.events).pairs t.seats u.seats told

  fresh_watches : (told_in fresh me boot t.seats ws b o).watches ≡ (fired ws o.events).left
  unfolding with_row
  fresh_watches = refl

  pub unwritten : is_write b ≡ false → (ch : Choices) × IsTable ks t (made_in ch sg d me boot t.seats ws b o) v ws' d
  unwritten no_write =
      let still = subst (λ z. SettlesSome o.state (fired ws o.events).left ws' (if z then server else None) u v) no_write settles in (
        fresh,
        table_by fresh (idle o.state (fired ws o.events).left ws' u v fresh (told_in fresh me boot t.seats ws b o) fresh_seats fresh_watches (ap (λ (z : Seating Seat). z.seats) still.0) still.1
            (told_rests me boot o.state.applied b o.reply (fired ws o.events).pairs t.seats u.seats told no_write rest)),
      )

  pub written : (ch : Choices) → IsAnswered ch o.state (told_in ch me boot t.seats ws b o) v ws' → (ch : Choices) × IsTable ks t (made_in ch sg d me boot t.seats ws b o) v ws' d
  written ch h = (ch, table_by ch h)

-- a write's connection was answered
answered_write : (me boot : ℕ) (b : Body) (o : Outcome) (server : Option ℕ) (ws ws' : List Watch) (t u v : Seating Seat) → ((q : ℕ) → IsResting (map.get t.seats q)) → IsSubject t (subject b) server
    → AreInformed me boot o.state.applied b o.reply (fired ws o.events).pairs t.seats u.seats → IsIndexed u → SameBeside t u → SettlesSome o.state (fired ws o.events).left ws' (waits_for b server) u v
    → is_write b ≡ true → (ch : Choices) × IsAnswered ch o.state (told_in ch me boot t.seats ws b o) v ws'
answered_write me boot body.Noop o server ws ws' t u v rest is told indexed beside settles w = no false refl w
answered_write me boot (body.OpenSession timeout passwd origin) o server ws ws' t u v rest is told indexed beside settles w = no false refl w
answered_write me boot (body.Attach session passwd origin) o server ws ws' t u v rest is told indexed beside settles w = no false refl w
answered_write me boot (body.Expire session) o server ws ws' t u v rest is told indexed beside settles w = no false refl w
answered_write me boot (body.Write session epoch seq c) o server ws ws' t u v rest is told indexed beside settles w =
    let z = write_answered me boot session epoch seq c o ws ws' t u v told rest indexed beside server is settles in
    (answering me boot o.state.applied session epoch seq c o.reply (fired ws o.events).pairs t.seats u.seats told z.0, z.1)

pub plain_table : (me boot : ℕ) (sg : step.Ground) (d : step.Desk) (b : Body) (o : Outcome) (fs : List Fired) (server : Option ℕ) (ks : List ℕ) (ws ws' : List Watch) (t u v : Seating Seat)
    → ((q : ℕ) → IsResting (map.get t.seats q)) → AreKept t.seats ws → ((q : ℕ) → map.get t.sessions q ≡ served_at (map.get t.seats q))
    → IsSubject t (subject b) server → (guest : Option ℕ) → HasConcerned fs server guest ks → shown o.events fs ≡ somes (fired ws o.events).pairs
    → guest_in t.seats (newcomer_by me boot b o.reply) ≡ None
    → AreInformed me boot o.state.applied b o.reply (fired ws o.events).pairs t.seats u.seats → IsIndexed u → SameBeside t u
    → SettlesSome o.state (fired ws o.events).left ws' (waits_for b server) u v
    → (ch : Choices) × IsTable ks t (made_in ch sg d me boot t.seats ws b o) v ws' d
plain_table me boot sg d b o fs server ks ws ws' t u v rest kept served is guest all shows none told indexed beside settles = at (is_write b) refl where
  at : (z : Bool) → is_write b ≡ z → (ch : Choices) × IsTable ks t (made_in ch sg d me boot t.seats ws b o) v ws' d
  at true e = let h = answered_write me boot b o server ws ws' t u v rest is told indexed beside settles e in
      written me boot sg d b o fs server ks ws ws' t u v rest kept served is guest all shows none told indexed beside settles h.0 h.1
  at false e = unwritten me boot sg d b o fs server ks ws ws' t u v rest kept served is guest all shows none told indexed beside settles e
