-- An entry with a guest, once the guest is back at its place, is the table of the definition.
use Rattle.std.proofs.Common.{◌≡◌, ℕ, Bool, true, false, cond, List, [], Option, Some, None, is_some, refl, ap, sym, subst, ◌∙◌}
use Rattle.std.specs.Prelude.{nat_eq}
use Rattle.std.specs.Option.{option_map}
use Rattle.std.specs.List.{list_any}
use Rattle.std.specs.Cmp.{nat_eq_equiv}
use Rattle.std.specs.FinMap as map
use Rattle.kp_model.specs.declared.entry.Body.{Body}
use Rattle.kp_model.specs.declared.entry.Body.TheVariants as body
use Rattle.kp_model.specs.declared.reply.Event.{Event}
use Rattle.kp_model.specs.declared.reply.Reply.{Reply}
use Rattle.kp_model.specs.State.{Sessions}
use Rattle.kp_model.specs.Step.{Outcome}
use Rattle.kp_seats.specs.Seating.{Seating, holding, roomy}
use Rattle.kp_seats.specs.Serving.{IsServer, is_that, serves}
use Rattle.kp_seats.specs.Walked.{SameBeside}
use Rattle.kp_watch.specs.declared.watch.Fired.{Fired}
use Rattle.kp_watch.specs.declared.watch.Watch.{Watch}
use Rattle.kp_watch.specs.Watching.{fired, shown, somes}
use Rattle.kp_conn.specs.declared.fed.Fed.{Fed}
use Rattle.kp_conn.specs.declared.phase.Phase.{Phase}
use Rattle.kp_conn.specs.declared.phase.Phase.TheVariants as phase
use Rattle.kp_conn.specs.Connection.{Connection, blank}
use Rattle.kp_step.specs.declared.seat.Seat.{Seat}
use Rattle.kp_step.specs.Choices.{Choices, Luck}
use Rattle.kp_step.specs.Handing as step
use Rattle.kp_step.specs.Node.{Seats}
use Rattle.kp_step.specs.Tables.{seated, with_row}
use Rattle.kp_step.specs.Committing.{is_of, conn_of, session_of, session_at, hears, packets_for, meaning}
use Rattle.kp_node.specs.declared.welcoming.Welcome.{Welcome}
use Rattle.kp_step.specs.Step.{swept}
use Rattle.kp_node.specs.Applied.{told_in, made_in, IsTable}
use Rattle.kp_node.specs.Changing.{ChangedAt, AreKeptBut}
use Rattle.kp_node.specs.Concerned.{HasConcerned, subject, IsSubject}
use Rattle.kp_node.specs.Greeting.{Greets}
use Rattle.kp_node.specs.Guests.{joined_if}
use Rattle.kp_node.specs.Holding.{AreKept, served_by, served_at}
use Rattle.kp_node.specs.Indexing.{IsServedBut}
use Rattle.kp_node.specs.Informing.{AreInformed}
use Rattle.kp_node.specs.Meaning.{IsIndexed}
use Rattle.kp_node.specs.Prospects.{newcomer_by}
use Rattle.kp_node.specs.Resting.{IsResting}
use Rattle.kp_node.specs.Serving.{IsServed}
use Rattle.kp_node.specs.Welcoming.{welcome_by, welcome_in}
use Rattle.kp_node.proofs.Concerns.{informed_law}
use Rattle.kp_node.proofs.Maps.{no, get-put, same_number}
use Rattle.kp_node.proofs.Placed.{kept_changed, listed, changed_more, indexed_joined, served_joined, guest_session, served_session, served_others, attach_ousts, attach_welcome, not_none}
use Rattle.kp_node.proofs.Seated.{ServedBy, served_by_luck, any_luck, with_guest, guest_seats, guest_watches, guest_desk}
use Rattle.kp_node.proofs.Staying.{left_all}
use Rattle.kp_node.proofs.Tabled.{rows, chosen, by_luck}

-- ---- who served the guest's session before

served_of : (p : Phase) (s : ℕ) → served_by p ≡ Some s → is_of s p ≡ true
served_of phase.Fresh s h = absurd (not_none None s refl h)
served_of (phase.Connecting ro) s h = absurd (not_none None s refl h)
served_of (phase.Live x e n) s h = ap (λ (o : Option ℕ). is_that o s) h ∙ nat_eq_equiv.refl s
served_of (phase.Closing lost) s h = absurd (not_none None s refl h)

-- the connection of the entry's session doesn't serve the guest's any more
ousted : (ch : Choices) (me boot zxid : ℕ) (m : Sessions) (b : Body) (r : Reply) (t : Seating Seat) (server : Option ℕ) (k q : ℕ) (x : Welcome) (c : Connection)
    → newcomer_by me boot b r ≡ Some k → welcome_by m b r ≡ Some x → IsSubject t (subject b) server → is_that server q ≡ true → nat_eq k q ≡ false → is_of x.id (meaning ch me boot zxid b r q c).connection.phase ≡ false
ousted ch me boot zxid m body.Noop r t server k q x c new w is there other = absurd (not_none None x refl w)
ousted ch me boot zxid m (body.OpenSession timeout passwd o) r t server k q x c new w is there other = no true (sym there ∙ ap (λ s. is_that s q) is) refl
ousted ch me boot zxid m (body.Attach session passwd o) r t server k q x c new w is there other =
    let known = attach_welcome m session passwd o r x w in
    let mine : conn_of me boot o ≡ Some k = subst (λ z. newcomer_by me boot (body.Attach session passwd o) z ≡ Some k) known.1.0 new in
    (λ i. is_of (known.1.1 i) (meaning ch me boot zxid (body.Attach session passwd o) (known.1.0 i) q c).connection.phase)
    ∙ attach_ousts ch me boot zxid session passwd o known.0 q (ap (λ z. is_that z q) mine ∙ other) c
ousted ch me boot zxid m (body.Expire session) r t server k q x c new w is there other = absurd (not_none None x refl w)
ousted ch me boot zxid m (body.Write session epoch seq q') r t server k q x c new w is there other = absurd (not_none None x refl w)

module _ (me boot zxid : ℕ) (m : Sessions) (b : Body) (r : Reply) (pairs : List (ℕ × Event)) (t : Seating Seat) (aside : Seats) (u : Seating Seat) (server : Option ℕ) (k : ℕ) (x : Welcome)
    (new : newcomer_by me boot b r ≡ Some k) (w : welcome_by m b r ≡ Some x) (is : IsSubject t (subject b) server) (alone : IsServer t.sessions x.id server)
    (told : AreInformed me boot zxid b r pairs aside u.seats) (indexed : IsIndexed u) (same : u.sessions ≡ t.sessions) where
  abbrev ch : Choices
  ch = chosen me boot zxid b r pairs aside u.seats told

  by_server : (q : ℕ) (o : Option ℕ) → IsServer t.sessions x.id o → serves t.sessions x.id q ≡ true → is_that o q ≡ true
  by_server q None h e = no true (sym e ∙ h q) refl
  by_server q (Some j) h e = sym (h q) ∙ e

  not_served : (q : ℕ) (o p : Option Seat) → option_map (rows me boot zxid b r pairs ch q) o ≡ p → is_that server q ≡ true → nat_eq k q ≡ false → served_at p ≡ Some x.id → ⊥
  not_served q None p e there other at = not_none None x.id refl (ap served_at e ∙ at)
  not_served q (Some s) p e there other at =
      let c = (hears ch pairs q s.connection).connection in
      no (is_of x.id (meaning ch me boot zxid b r q c).connection.phase) (ousted ch me boot zxid m b r t server k q x c new w is there other)
      (served_of (meaning ch me boot zxid b r q c).connection.phase x.id (ap served_at e ∙ at))

  -- nobody else serves it
  pub none_else : (i : ℕ) → x.id ≡ i → (q : ℕ) → nat_eq k q ≡ false → served_at (map.get u.seats q) ≡ Some i → ⊥
  none_else i e q other at =
      let at' : served_at (map.get u.seats q) ≡ Some x.id = at ∙ ap Some (sym e) in
      let by_index : serves t.sessions x.id q ≡ true = ap (λ z. is_that z x.id) (ap (λ z. map.get z q) (sym same) ∙ indexed q x.id at') ∙ nat_eq_equiv.refl x.id in
      not_served q (map.get aside q) (map.get u.seats q) (by_luck me boot zxid b r pairs aside u.seats told ch q refl refl) (by_server q server alone by_index) other at'

-- ---- what was read of the guest, or nothing

-- it was served, if anything was read
abbrev pub ServedIf : step.Ground → ℕ → Option Fed → List Watch → Connection → step.Desk → List Watch → Connection → step.Desk → Type 0
ServedIf g k None ws c d ws' c' d' = (c' ≡ c) × ((d' ≡ d) × (ws' ≡ ws))
ServedIf g k (Some f) ws c d ws' c' d' = IsServed g k ws c d f ws' c' d'

module _ (g : step.Ground) (k : ℕ) (ws ws' : List Watch) (c c' : Connection) (d d' : step.Desk) where
  if_luck : (f : Option Fed) → ServedIf g k f ws c d ws' c' d' → (luck : Luck) × ServedBy g luck k ws c d f ws' c' d'
  if_luck None h = (any_luck, (h.0, h.1.0, λ m s there e. ap (swept m) h.1.1))
  if_luck (Some f) h = (h.0, served_by_luck g k ws c d f ws' c' d' h)

  if_session : (f : Option Fed) (i : ℕ) → ServedIf g k f ws c d ws' c' d' → served_by c'.phase ≡ Some i → served_by c.phase ≡ Some i
  if_session None i h at = ap (λ (z : Connection). served_by z.phase) (sym h.0) ∙ at
  if_session (Some f) i h at = served_session g k ws ws' c c' d d' f i h at

  if_others : (f : Option Fed) (ks : List ℕ) (m : Seats) → list_any (nat_eq k) ks ≡ true → ServedIf g k f ws c d ws' c' d' → AreKeptBut ks m ws → AreKeptBut ks m ws'
  if_others None ks m there h kept = subst (AreKeptBut ks m) (sym h.1.1) kept
  if_others (Some f) ks m there h kept = served_others g k ws ws' c c' d d' f ks m there h kept

-- ---- all of it

joined_seats : (session : Option ℕ) (k : ℕ) (t : Seating Seat) → (joined_if session k t).seats ≡ t.seats
joined_seats None k t = refl
joined_seats (Some i) k t = refl

joined_next : (session : Option ℕ) (k : ℕ) (t : Seating Seat) → (joined_if session k t).next ≡ t.next
joined_next None k t = refl
joined_next (Some i) k t = refl

module _ (me boot : ℕ) (sg : step.Ground) (d d' : step.Desk) (m : Sessions) (b : Body) (o : Outcome) (fs : List Fired) (server : Option ℕ) (ks : List ℕ) (ws ws' : List Watch) (t u : Seating Seat) (k : ℕ) (s : Seat) (ro : Bool) (w : Option Welcome) (f : Option Fed) (conn conn' : Connection)
    (rest : (q : ℕ) → IsResting (map.get t.seats q)) (kept : AreKept t.seats ws) (served : (q : ℕ) → map.get t.sessions q ≡ served_at (map.get t.seats q))
    (subject_is : IsSubject t (subject b) server) (all : HasConcerned fs server (Some k) ks) (shows : shown o.events fs ≡ somes (fired ws o.events).pairs)
    (there : map.get t.seats k ≡ Some s) (waits : s.connection.phase ≡ phase.Connecting ro) (new : newcomer_by me boot b o.reply ≡ Some k) (silent : packets_for k (fired ws o.events).pairs ≡ [])
    (alone : (x : Welcome) → w ≡ Some x → IsServer t.sessions x.id server) (welcome : w ≡ welcome_by m b o.reply) (known : w ≡ welcome_in (session_of b o.reply) (session_at sg.state (session_of b o.reply)))
    (greets : Greets (phase.Connecting ro) w f s.connection conn) where
  abbrev aside : Seating Seat
  aside = holding (roomy t) k (seated s blank)

  module _ (told : AreInformed me boot o.state.applied b o.reply (fired ws o.events).pairs aside.seats u.seats) (indexed : IsIndexed u) (beside : SameBeside aside u) (by : ServedIf sg k f (fired ws o.events).left conn d ws' conn' d') where
    abbrev left : List Watch
    left = (fired ws o.events).left

    abbrev behind : Seating Seat
    behind = joined_if (served_by conn'.phase) k (holding u k (seated s conn'))

    -- ---- the connections

    put : behind.seats ≡ map.insert u.seats k (seated s conn')
    put = joined_seats (served_by conn'.phase) k (holding u k (seated s conn'))

    abbrev lucky : (luck : Luck) × ServedBy sg luck k left conn d f ws' conn' d'
    lucky = if_luck sg k left ws' conn conn' d d' f by

    abbrev picked : Choices
    picked = with_guest sg d me boot b o ws t.seats k s ro there waits new silent aside.seats u.seats refl told rest lucky.0

    by_table : ServedBy sg lucky.0 k (told_in picked me boot t.seats ws b o).watches conn d f ws' conn' d'
    unfolding with_row
    by_table = lucky.1

    seats_are : behind.seats ≡ (made_in picked sg d me boot t.seats ws b o).table.seats
    seats_are = guest_seats sg d me boot b o ws t.seats k s ro there waits new silent aside.seats u.seats refl told rest lucky.0 w f conn known greets behind.seats ws' conn' d' put by_table

    watches_are : swept behind.seats ws' ≡ swept behind.seats (made_in picked sg d me boot t.seats ws b o).table.watches
    watches_are = guest_watches sg d me boot b o ws t.seats k s ro there waits new silent aside.seats u.seats refl told rest lucky.0 w f conn known greets behind.seats ws' conn' d' put by_table

    desk_is : d' ≡ (made_in picked sg d me boot t.seats ws b o).desk
    desk_is = guest_desk sg d me boot b o ws t.seats k s ro there waits new silent aside.seats u.seats refl told rest lucky.0 w f conn known greets behind.seats ws' conn' d' put by_table

    -- ---- which of them changed

    out : (q : ℕ) → list_any (nat_eq q) ks ≡ false → nat_eq k q ≡ false
    out q e = all.newcomer q e

    aside_at : (q : ℕ) (z : Bool) → nat_eq k q ≡ z → z ≡ false → map.get aside.seats q ≡ map.get t.seats q
    aside_at q z e n = get-put t.seats k (seated s blank) q ∙ ap (λ b. cond b (Some (seated s blank)) (map.get t.seats q)) (e ∙ n)

    aside_there : (q : ℕ) (z : Bool) → nat_eq k q ≡ z → is_some (map.get aside.seats q) ≡ is_some (map.get t.seats q)
    aside_there q true e = ap is_some (get-put t.seats k (seated s blank) q ∙ ap (λ b. cond b (Some (seated s blank)) (map.get t.seats q)) e) ∙ ap is_some (sym there) ∙ ap (λ j. is_some (map.get t.seats j)) (same_number k q e)
    aside_there q false e = ap is_some (aside_at q false e refl)

    indexed_aside : IsIndexed aside
    indexed_aside q i at = by_place (nat_eq k q) refl at where
      by_place : (z : Bool) → nat_eq k q ≡ z → served_at (map.get aside.seats q) ≡ Some i → map.get t.sessions q ≡ Some i
      by_place true e at = absurd (not_none None i refl (sym (ap served_at (get-put t.seats k (seated s blank) q ∙ ap (λ b. cond b (Some (seated s blank)) (map.get t.seats q)) e)) ∙ at))
      by_place false e at = served q ∙ ap served_at (sym (aside_at q false e refl)) ∙ at

    told_changed : ChangedAt ks aside.seats u.seats
    told_changed = informed_law me boot o.state.applied b o.reply o.events fs (fired ws o.events).pairs server (Some k) ks aside u.seats indexed_aside shows subject_is all told

    changed_so : ChangedAt ks t.seats u.seats
    changed_so = record {
      same = λ q e. told_changed.same q e ∙ aside_at q (nat_eq k q) refl (out q e);
      there = λ q. told_changed.there q ∙ aside_there q (nat_eq k q) refl;
    }

    behind_at : (q : ℕ) → nat_eq k q ≡ false → map.get behind.seats q ≡ map.get u.seats q
    behind_at q e = ap (λ m. map.get m q) put ∙ get-put u.seats k (seated s conn') q ∙ ap (λ b. cond b (Some (seated s conn')) (map.get u.seats q)) e

    behind_own : map.get behind.seats k ≡ Some (seated s conn')
    behind_own = ap (λ m. map.get m k) put ∙ get-put u.seats k (seated s conn') k ∙ ap (λ b. cond b (Some (seated s conn')) (map.get u.seats k)) (nat_eq_equiv.refl k)

    changed : ChangedAt ks t.seats behind.seats
    changed = changed_more ks t.seats u.seats behind.seats k out changed_so behind_at (ap is_some behind_own ∙ ap is_some (sym there))

    kept_behind : AreKeptBut ks behind.seats ws'
    kept_behind = if_others sg k left ws' conn conn' d d' f ks behind.seats (listed ks k out) by (kept_changed ks t.seats behind.seats changed left (left_all _ ws o.events kept))

    -- ---- the index

    guest_is : (i : ℕ) → served_by conn'.phase ≡ Some i → (x : Welcome) × ((w ≡ Some x) × (x.id ≡ i))
    guest_is i at = guest_session ro w f s.connection conn i greets (if_session sg k left ws' conn conn' d d' f i by at)

    nobody_else : (i : ℕ) → served_by conn'.phase ≡ Some i → (q : ℕ) → nat_eq k q ≡ false → served_at (map.get u.seats q) ≡ Some i → ⊥
    nobody_else i at =
        let x = guest_is i at in
        none_else me boot o.state.applied m b o.reply (fired ws o.events).pairs t aside.seats u server k x.0 new (sym welcome ∙ x.1.0) subject_is (alone x.0 x.1.0) told indexed beside.1 i x.1.1

    indexed_behind : IsIndexed behind
    indexed_behind = indexed_joined u k (seated s conn') (served_by conn'.phase) refl indexed nobody_else

    served_so : IsServedBut ks u
    served_so q e = ap (λ z. map.get z q) beside.1 ∙ served q ∙ ap served_at (sym (changed_so.same q e))

    unserved : (q i : ℕ) (j : Option ℕ) → IsServer t.sessions i j → is_that j q ≡ false → serves t.sessions i q ≡ false
    unserved q i None h e = h q
    unserved q i (Some n) h e = h q ∙ e

    not_serving : (i : ℕ) → served_by conn'.phase ≡ Some i → (q : ℕ) → list_any (nat_eq q) ks ≡ false → serves u.sessions i q ≡ false
    not_serving i at q e =
        let x = guest_is i at in
        ap (λ z. serves z i q) beside.1 ∙ ap (λ n. serves t.sessions n q) (sym x.1.1) ∙ unserved q x.0.id server (alone x.0 x.1.0) (all.server q e)

    served_behind : IsServedBut ks behind
    served_behind = served_joined u k (seated s conn') ks out served_so (served_by conn'.phase) not_serving

    pub guest_table : (ch : Choices) × IsTable ks t (made_in ch sg d me boot t.seats ws b o) behind ws' d'
    guest_table = (
      picked,
      record {
        seats = seats_are;
        next = joined_next (served_by conn'.phase) k (holding u k (seated s conn')) ∙ beside.0;
        watches = watches_are;
        desk = desk_is;
        changed = changed;
        kept = kept_behind;
        indexed = indexed_behind;
        served = served_behind;
      },
    )
