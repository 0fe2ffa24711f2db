-- A connection that takes bytes makes the step of its node.
use Rattle.std.proofs.Common.{◌≡◌, ℕ, ◌+◌, ◌-◌, ◌≤◌, ◌<◌, ◌^◌, Bool, true, false, cond, ◌||◌, nat_eq, List, [], ◌∷◌, ◌++◌, length, Option, Some, None, is_some, refl, ap, sym, subst, ◌∙◌, arith}
use Rattle.std.specs.Prelude.{map, if◌then◌else◌}
use Rattle.std.specs.List.Sorted.{IsStrictlySortedBy}
use Rattle.std.specs.Ordering.{nat_cmp}
use Rattle.std.specs.Cmp.{nat_eq_equiv}
use Rattle.std.specs.FinMap as map
use Rattle.std.specs.FinMap.{FinMap}
use Rattle.kp_model.specs.Store.{Store}
use Rattle.kp_entry.specs.Log.{last_index}
use Rattle.kp_raft.specs.declared.event.RaftEvent.TheVariants as raft
use Rattle.kp_raft.specs.declared.event.RaftOut.{RaftOut}
use Rattle.kp_raft.specs.Members.{Member, running_of}
use Rattle.kp_raft.specs.Parts.{Outcome, nothing, is_leader}
use Rattle.kp_raft.specs.Steps.{added}
use Rattle.kp_event.specs.declared.event.NodeEventKind.TheVariants as kind
use Rattle.kp_event.specs.declared.said.FedWord.TheVariants as fed_words
use Rattle.kp_event.specs.declared.said.Said.TheVariants as says
use Rattle.kp_snapshot.specs.Snapshots.{Snapshot}
use Rattle.kp_expiry.specs.declared.heard.Heard.{Heard}
use Rattle.kp_seats.specs.Seating.{Seating, holding, left}
use Rattle.kp_watch.specs.declared.watch.Watch.{Watch}
use Rattle.kp_conn.specs.declared.phase.Phase.{Phase}
use Rattle.kp_conn.specs.declared.phase.Phase.TheVariants as phase
use Rattle.kp_conn.specs.Connection.{Connection, is_over, is_lost}
use Rattle.kp_conn.specs.Fed.{fed, fed_as, end_of}
use Rattle.kp_conn.specs.Frames.{cut}
use Rattle.kp_step.specs.declared.seat.Seat.{Seat}
use Rattle.kp_step.specs.Choices.{Choices}
use Rattle.kp_step.specs.Node.{Node, Seats}
use Rattle.kp_step.specs.Tables.{seated}
use Rattle.kp_step.specs.Handing.{Served, serves, ground}
use Rattle.kp_step.specs.Asking.{Words, Input, idle, asks, asked, reacted, installed, client_input, client_served, propose_if, is_csnp}
use Rattle.kp_step.specs.Committing.{hear}
use Rattle.kp_step.specs.Step.{with_spoken, Stepped, Turn, turn, turned, together, step, client_turn, fed_turn, fed_word, hears_client, node_behind, client_table, behind, standing_of, swept, keeps_watches, count_lost, newly_ready, filled, forwarded}
use Rattle.kp_step.specs.Runs.{IsResting}
use Rattle.kp_step.proofs.Resting.{AllQuiet, IsQuiet, insert_quiet, serves_quiet}
use Rattle.kp_node.specs.declared.client_events.Read.{Read}
use Rattle.kp_node.specs.declared.joining.Ground.{Ground}
use Rattle.kp_node.specs.declared.outcome.Outcome.{Outcome as Given}
use Rattle.kp_node.specs.declared.taking.Taken.{Taken}
use Rattle.kp_node.specs.Changing.{was_given_up, idle_among, ready_among, lost_among, ChangedAt}
use Rattle.kp_node.specs.Clients.{client_at, client_step, ground_of, takes_none, TakesAt, IsFed, given_fed}
use Rattle.kp_node.specs.Deciding.{kept_watches}
use Rattle.kp_node.specs.Holding.{Holds, AreKept, served_by, served_at}
use Rattle.kp_node.specs.Joining.{ground_in, desk_of}
use Rattle.kp_node.specs.Parts.{Parts, node_of}
use Rattle.kp_node.specs.Proposing.{Does, proposed_to}
use Rattle.kp_node.specs.Steps.{images, Steps, Reacts, aside, quietly}
use Rattle.kp_node.specs.TakingBytes.{taken, seated_at, end_in, heard_by, spoken_by, with_luck}
use Rattle.kp_node.proofs.Asked.{IsPlain, same_desk, unapplied_stays, from_stays, to_stays, asked_so, plain, no_image, none_installed}
use Rattle.kp_node.proofs.Changed.{ready_law, lost_law}
use Rattle.kp_node.proofs.Lasting.{GoesOn, Lasts, serves_lasts, swept_so, swept_kept}
use Rattle.kp_node.proofs.Maps.{no, get-put, get-taken, same_number, served_put, kept_all}
use Rattle.kp_node.proofs.Reacting.{behind_steps}

pub at_client : (words : Words) (ch : Choices) (x : Node) (now k : ℕ) (bytes : List ℕ) → step words images ch x (record { now = now; kind = kind.Client k bytes }) ≡ client_step words ch x now k bytes
unfolding step asked turned
at_client words ch x now k bytes = refl

-- ---- one connection changed

module _ (m : Seats) (k : ℕ) (s d : Seat) (there : map.get m k ≡ Some s) where
  one_sorted : IsStrictlySortedBy nat_cmp (k ∷ [])
  unfolding IsStrictlySortedBy
  one_sorted = (tt, tt)

  or_false : (b : Bool) → (b || false) ≡ false → b ≡ false
  or_false true e = e
  or_false false e = refl

  still_there : (q : ℕ) (b : Bool) → nat_eq k q ≡ b → is_some (cond b (Some d) (map.get m q)) ≡ is_some (map.get m q)
  still_there q true e = sym (ap (λ j. is_some (map.get m j)) (sym (same_number k q e)) ∙ ap is_some there)
  still_there q false e = refl

  one_changed : ChangedAt (k ∷ []) m (map.insert m k d)
  one_changed = record {
    same = λ q e. get-put m k d q ∙ ap (λ b. cond b (Some d) (map.get m q)) (nat_eq_equiv.symm k q ∙ or_false (nat_eq q k) e);
    there = λ q. ap is_some (get-put m k d q) ∙ still_there q (nat_eq k q) refl;
  }

  not_lost : (p : Phase) → is_over p ≡ false → is_lost p ≡ false
  not_lost phase.Fresh e = refl
  not_lost (phase.Connecting ro) e = refl
  not_lost (phase.Live i n j) e = refl
  not_lost (phase.Closing l) e = no true e refl

  none_lost_before : is_over s.connection.phase ≡ false → lost_among m (k ∷ []) ≡ []
  none_lost_before e = ap (λ o. cond (was_given_up o) (k ∷ []) []) there ∙ ap (λ b. cond b (k ∷ []) []) (not_lost s.connection.phase e)

  pub lost_here : is_over s.connection.phase ≡ false → length (lost_among (map.insert m k d) (k ∷ [])) ≡ count_lost (map.insert m k d) - count_lost m
  lost_here e =
      let law = lost_law (k ∷ []) m (map.insert m k d) one_sorted one_changed in
      let none = ap length (none_lost_before e) in
      omega (arith, law, none)

  pub ready_here : ready_among (map.insert m k d) (idle_among m (k ∷ [])) ≡ newly_ready m (map.insert m k d)
  ready_here = sym (ready_law (k ∷ []) m (map.insert m k d) one_sorted one_changed)

-- ---- the index of sessions

over_serves : (p : Phase) → is_over p ≡ true → served_by p ≡ None
over_serves phase.Fresh e = no false refl e
over_serves (phase.Connecting ro) e = no false refl e
over_serves (phase.Live s i n) e = no false refl e
over_serves (phase.Closing l) e = refl

module _ (t : Seating Seat) (k : ℕ) (s : Seat) (c : Connection) (there : map.get t.seats k ≡ Some s) (goes : GoesOn s.connection c) where
  abbrev now_there : Seat
  now_there = seated s c

  abbrev in_index : Bool → Seating Seat
  in_index b = if b then left (holding t k now_there) k else holding t k now_there

  seats_by : (b : Bool) → (in_index b).seats ≡ map.insert t.seats k now_there
  seats_by true = refl
  seats_by false = refl

  next_by : (b : Bool) → (in_index b).next ≡ t.next
  next_by true = refl
  next_by false = refl

  pub seats_now : (seated_at t k now_there).seats ≡ map.insert t.seats k now_there
  seats_now = seats_by (is_over c.phase)

  pub next_now : (seated_at t k now_there).next ≡ t.next
  next_now = next_by (is_over c.phase)

  abbrev IsIndex : Seating Seat → Type 0
  IsIndex u = (q : ℕ) → map.get u.sessions q ≡ served_at (map.get u.seats q)

  left_at : (q : ℕ) (b : Bool) → is_over c.phase ≡ true → map.get t.sessions q ≡ served_at (map.get t.seats q) → cond b None (map.get t.sessions q) ≡ served_at (cond b (Some now_there) (map.get t.seats q))
  left_at q true over h = sym (over_serves c.phase over)
  left_at q false over h = h

  index_by : (b : Bool) → is_over c.phase ≡ b → IsIndex t → IsIndex (in_index b)
  index_by true e h q = get-taken t.sessions k q ∙ left_at q (nat_eq k q) e (h q) ∙ ap served_at (sym (get-put t.seats k now_there q))
  index_by false e h q = served_put (λ o i. i ≡ served_at o) t.seats t.sessions k now_there (h k ∙ ap served_at there ∙ sym (goes.session e)) h q

  pub index_now : IsIndex t → IsIndex (seated_at t k now_there)
  index_now h = index_by (is_over c.phase) refl h

-- ---- the session is heard

hears_so : (now : ℕ) (q : Phase) (x : Node) → hears_client now q x ≡ record x { heard = heard_by now x.state x.heard q; spoken = spoken_by x.spoken q }
hears_so now phase.Fresh x = refl
hears_so now (phase.Connecting ro) x = refl
hears_so now (phase.Live s e n) x = refl
hears_so now (phase.Closing l) x = refl

-- ---- the step

module _ (now k : ℕ) (text : List ℕ → List ℕ) (bytes : List ℕ) (p y : Parts) (r : Read) (h : Holds p) (ends : p.member.vars.commit ≤ last_index p.member.held.log) (d : IsFed now k text bytes p r y) where
  abbrev s : Seat
  s = d.at.was

  abbrev w : Served
  w = taken (ground_of p now) d.at.takes.luck k s.draw text p.store p.watches s.connection bytes

  abbrev did : Outcome Snapshot
  did = proposed_to p.member now w.desk.bodies

  -- the seat behind it
  abbrev seat : Seat
  seat = seated s d.at.after

  abbrev seats : Seats
  seats = map.insert p.seating.seats k seat

  lasts : Lasts (ground_in (ground_of p now) p.store.state) k p.watches s.connection (desk_of p.store [] []) w
  lasts = serves_lasts (ground_in (ground_of p now) p.store.state) d.at.takes.luck k s.draw text (desk_of p.store [] []) p.watches s.connection bytes

  goes : GoesOn s.connection d.at.after
  goes = subst (GoesOn s.connection) (sym d.at.takes.connection) lasts.goes

  none_led : is_leader p.member.vars.role ≡ false → w.desk.bodies ≡ []
  none_led = lasts.none

  seats_are : y.seating.seats ≡ seats
  seats_are = ap (λ (t : Seating Seat). t.seats) d.at.seating ∙ seats_now p.seating k s d.at.after d.at.there goes

  next_is : y.seating.next ≡ p.seating.next
  next_is = ap (λ (t : Seating Seat). t.next) d.at.seating ∙ next_now p.seating k s d.at.after d.at.there goes

  state_stays : y.store.state ≡ p.store.state
  state_stays = ap (λ (x : Store). x.state) d.at.takes.at.store

  watches_are : y.watches ≡ swept seats w.watches
  watches_are = d.at.takes.watches ∙ swept_so p.seating.seats k seat p.watches w.watches h.kept lasts.own

  -- ---- what holds behind it

  abbrev out : RaftOut Snapshot
  out = record { added = added did.records; truncated = None; image = None; records = did.records; mail = did.mail }

  does : Does did p.member out y.member
  does = record {
    records = refl;
    mail = refl;
    image = refl;
    added = refl;
    node = d.at.takes.over.raft.node;
    members = d.at.takes.over.raft.members;
    held = d.at.takes.over.raft.held;
    running = d.at.takes.over.raft.running;
  }

  pub fed_holds : p.events < 2 ^ 62 → Holds y
  fed_holds few = record {
    few = subst (λ n. n ≤ 7) (sym d.at.takes.over.raft.members) h.few;
    rest = subst AllQuiet (sym seats_are) (insert_quiet p.seating.seats k seat h.rest (subst IsQuiet (sym d.at.takes.connection) (serves_quiet (ground_in (ground_of p now) p.store.state) d.at.takes.luck k s.draw text (desk_of p.store [] []) p.watches s.connection bytes (subst IsResting d.at.there (h.rest k)))));
    kept = subst (AreKept y.seating.seats) (sym d.at.takes.watches) (subst (λ m. AreKept m (kept_watches k d.at.after.phase w.watches)) (sym seats_are) (swept_kept p.seating.seats k seat p.watches w.watches h.kept lasts.own));
    unapplied = unapplied_stays p h ends now w.desk.bodies y.store w.desk d.at.takes.at y.member out does none_led;
    from = from_stays p h ends now w.desk.bodies y.store w.desk d.at.takes.at y.member out does none_led;
    to = to_stays p h ends now w.desk.bodies y.store w.desk d.at.takes.at y.member out does none_led;
    served = subst (λ (t : Seating Seat). (q : ℕ) → map.get t.sessions q ≡ served_at (map.get t.seats q)) (sym d.at.seating) (index_now p.seating k s d.at.after d.at.there goes h.served);
    counted = let e = d.events in omega (arith, e, few);
  }

  -- ---- what the definition makes of it

  abbrev fed_so : Turn
  fed_so = fed_turn (node_of p) now k s (end_in s.connection bytes) w

  is_plain : IsPlain (node_of p) did
  is_plain = subst (IsPlain (node_of p)) (sym (asked_so p now w.desk.bodies)) (plain (node_of p) now w.desk.bodies)

  made_are : map.insert p.seating.seats k (seated s w.connection) ≡ seats
  made_are = ap (λ c. map.insert p.seating.seats k (seated s c)) (sym d.at.takes.connection)

  node_is : node_of y ≡ node_behind (node_of p) did fed_so.node
  node_is =
      (λ i. record {
        me = d.at.takes.over.raft.node i;
        members = d.at.takes.over.raft.members i;
        boot = d.boot i;
        held = d.at.takes.over.raft.held i;
        running = d.at.takes.over.raft.running i;
        state = state_stays i;
        seats = (seats_are ∙ sym made_are) i;
        next = next_is i;
        watches = (watches_are ∙ ap (λ m. swept m w.watches) (sym made_are)) i;
        heard = d.heard i;
        spoken = d.spoken i;
      })
      ∙ ap (λ x. node_behind (node_of p) did (behind x (client_table (node_of p) k s w))) (sym (hears_so now s.connection.phase (node_of p)))

  abbrev chosen : Choices
  chosen = with_luck d.at.takes.luck

  steps : Steps (together images chosen (node_of p) (kind.Client k bytes) did None fed_so) p y (given_fed r (standing_of (node_of y)))
  unfolding together
  steps = record {
    is = record {
      node = node_is;
      said = ap (λ e. says.Fed (fed_word e)) d.at.end;
      records = d.at.takes.over.raft.records;
      image = no_image (node_of p) did is_plain;
      mail = d.at.takes.over.mail ∙ sym (ap (λ ms. map (filled p.spoken) ms ++ map (forwarded (node_of p)) w.desk.forwards) is_plain.mail);
      cut = refl;
      lost = d.lost ∙ ap (λ m. length (lost_among m (k ∷ []))) seats_are ∙ lost_here p.seating.seats k s seat d.at.there d.at.stays_open ∙ ap (λ m. count_lost m - count_lost p.seating.seats) (sym made_are);
      standing = ap standing_of node_is;
      ready = d.ready ∙ ap (λ m. ready_among m (idle_among p.seating.seats (k ∷ []))) seats_are ∙ ready_here p.seating.seats k s seat d.at.there ∙ ap (newly_ready p.seating.seats) (sym made_are);
    };
    counted = d.events;
  }

-- what is asked and what follows, where no word asks for an image
module _ (words : Words) (now k : ℕ) (bytes : List ℕ) (p y : Parts) (r : Read) (h : Holds p) (ends : p.member.vars.commit ≤ last_index p.member.held.log) (d : IsFed now k (words (node_of p)) bytes p r y) (unasked : is_csnp (end_in d.at.was.connection bytes) ≡ false) where
  abbrev was : Seat
  was = d.at.was

  abbrev ch : Choices
  ch = with_luck d.at.takes.luck

  abbrev made : Served
  made = taken (ground_of p now) d.at.takes.luck k was.draw (words (node_of p)) p.store p.watches was.connection bytes

  served_so : client_served words ch (node_of p) now k bytes was ≡ made
  unfolding client_served
  served_so = ap (λ e. serves (ground now p.store.state (node_of p)) d.at.takes.luck k was.draw (words (node_of p)) e p.watches was.connection bytes) (sym (same_desk p h ends))

  input_so : client_input {I = Snapshot} words ch (node_of p) now k bytes (Some was) ≡ propose_if now made.desk.bodies
  input_so = ap (λ b. if b then idle else (if is_csnp (end_in was.connection bytes) then asks (raft.Compact p.store.state.applied) else propose_if now (client_served words ch (node_of p) now k bytes was).desk.bodies)) d.at.stays_open
      ∙ ap (λ b. if b then asks (raft.Compact p.store.state.applied) else propose_if now (client_served words ch (node_of p) now k bytes was).desk.bodies) unasked
      ∙ ap (λ (v : Served). propose_if now v.desk.bodies) served_so

  turn_so : client_turn words ch (node_of p) now k bytes (Some was) ≡ fed_turn (node_of p) now k was (end_in was.connection bytes) made
  turn_so = ap (λ b. if b then turn (node_of p) (says.Fed fed_words.Unknown) else fed_turn (node_of p) now k was (end_in was.connection bytes) (client_served words ch (node_of p) now k bytes was)) d.at.stays_open
      ∙ ap (fed_turn (node_of p) now k was (end_in was.connection bytes)) served_so

  abbrev with_asked : Input Snapshot → Turn → Stepped Snapshot
  with_asked input t = together images ch (node_of p) (kind.Client k bytes) (reacted (node_of p) input) (installed (node_of p) input) t

  step_so : client_step words ch (node_of p) now k bytes ≡ together images ch (node_of p) (kind.Client k bytes) (proposed_to p.member now made.desk.bodies) None (fed_turn (node_of p) now k was (end_in was.connection bytes) made)
  step_so = ap (client_at words ch (node_of p) now k bytes) d.at.there
      ∙ (λ i. with_asked (input_so i) (turn_so i))
      ∙ (λ i. together images ch (node_of p) (kind.Client k bytes) (sym (asked_so p now made.desk.bodies) i) (none_installed words ch (node_of p) now made.desk.bodies i) (fed_turn (node_of p) now k was (end_in was.connection bytes) made))

  pub fed_steps : (ch : Choices) × Steps (client_step words ch (node_of p) now k bytes) p y (given_fed r (standing_of (node_of y)))
  fed_steps = (ch, subst (λ (z : Stepped Snapshot). Steps z p y (given_fed r (standing_of (node_of y)))) (sym step_so) (steps now k (words (node_of p)) bytes p y r h ends d))

-- ---- as the code has it

any_text : List ℕ → List ℕ
any_text word = []

module _ (p : Parts) (now k session : ℕ) (bytes : List ℕ) (g : Ground) (m : Member) (x : Store) (ws : List Watch) (t : Seating Seat) (heard : FinMap nat_cmp Heard) (spoken idle : List ℕ) (taken : Taken) (r : Read)
    (is_ground : g ≡ ground_of p now) (is_idle : idle ≡ idle_among p.seating.seats (k ∷ []))
    (is_heard : heard ≡ hear now p.store.state p.heard session) (is_spoken : spoken ≡ with_spoken p.spoken session)
    (is : r ≡ record { taken = taken; ready = ready_among t.seats idle; lost = length (lost_among t.seats (k ∷ [])) })
    (takes : (text : List ℕ → List ℕ) → TakesAt g k text bytes p.member p.store p.watches p.seating m x ws t taken) where
  abbrev behind_it : Parts
  behind_it = record p { member = m; store = x; seating = t; watches = ws; heard = heard; spoken = spoken; events = p.events + 1 }

  serves_it : (q : Phase) → served_by q ≡ Some session → (heard_by now p.store.state p.heard q ≡ hear now p.store.state p.heard session) × (spoken_by p.spoken q ≡ with_spoken p.spoken session)
  serves_it phase.Fresh e = no false refl (ap is_some e)
  serves_it (phase.Connecting ro) e = no false refl (ap is_some e)
  serves_it (phase.Live id n j) e = let same : id ≡ session = cc in (ap (hear now p.store.state p.heard) same, ap (with_spoken p.spoken) same)
  serves_it (phase.Closing l) e = no false refl (ap is_some e)

  given : served_at (map.get p.seating.seats k) ≡ Some session → (text : List ℕ → List ℕ) → IsFed now k text bytes p (record { taken = taken; ready = ready_among t.seats idle; lost = length (lost_among t.seats (k ∷ [])) }) behind_it
  given serving text =
      let a : TakesAt (ground_of p now) k text bytes p.member p.store p.watches p.seating m x ws t taken = subst (λ f. TakesAt f k text bytes p.member p.store p.watches p.seating m x ws t taken) is_ground (takes text) in
      let so = serves_it a.was.connection.phase (sym (ap served_at a.there) ∙ serving) in record {
        at = a;
        heard = is_heard ∙ sym so.0;
        spoken = is_spoken ∙ sym so.1;
        boot = refl;
        events = refl;
        ready = ap (ready_among t.seats) is_idle;
        lost = refl;
      }

  pub fed_at : (z : Parts) → p ≡ z → served_at (map.get z.seating.seats k) ≡ Some session → (text : List ℕ → List ℕ) → IsFed now k text bytes z r behind_it
  fed_at z same serving text = subst (λ q. IsFed now k text bytes q r behind_it) same
      (subst (λ q. IsFed now k text bytes p q behind_it) (sym is) (given (subst (λ (q : Parts). served_at (map.get q.seating.seats k) ≡ Some session) (sym same) serving) text))

  pub fed_at_holds : (z : Parts) → p ≡ z → Holds p → z.events < 2 ^ 62 → served_at (map.get z.seating.seats k) ≡ Some session → p.member.vars.commit ≤ last_index p.member.held.log → Holds behind_it
  fed_at_holds z same h few serving ends =
      fed_holds now k any_text bytes p behind_it _ h ends (given (subst (λ (q : Parts). served_at (map.get q.seating.seats k) ≡ Some session) (sym same) serving) any_text)
      (subst (λ (q : Parts). q.events < 2 ^ 62) (sym same) few)

pub serving_there : (p x : Parts) → p ≡ x → (k session : ℕ) → served_at (map.get x.seating.seats k) ≡ Some session → is_some (served_at (map.get p.seating.seats k)) ≡ true
serving_there p x same k session serving = ap (λ (z : Parts). is_some (served_at (map.get z.seating.seats k))) same ∙ ap is_some serving

-- a live connection asks for no image
end_plain : (o : Option ℕ) → is_csnp (end_of o) ≡ false
end_plain None = refl
end_plain (Some at) = refl

end_as : (p : Phase) (c : Connection) (bytes : List ℕ) (session : ℕ) → served_by p ≡ Some session → is_csnp (fed_as p c bytes).1.end ≡ false
end_as phase.Fresh c bytes session e = no false refl (ap is_some e)
end_as (phase.Connecting ro) c bytes session e = no false refl (ap is_some e)
end_as (phase.Live s i n) c bytes session e = end_plain (cut c.place (c.kept ++ bytes)).bad
end_as (phase.Closing l) c bytes session e = no false refl (ap is_some e)

live_end : (c : Connection) (bytes : List ℕ) (session : ℕ) → served_by c.phase ≡ Some session → is_csnp (end_in c bytes) ≡ false
unfolding fed
live_end c bytes session e = end_as c.phase c bytes session e

pub live_given : (now k session : ℕ) (bytes : List ℕ) (p x y : Parts) (r : Read) (o : Given) → p ≡ x → Holds p → p.member.vars.commit ≤ last_index p.member.held.log → served_at (map.get x.seating.seats k) ≡ Some session
    → ((text : List ℕ → List ℕ) → IsFed now k text bytes x r y) → o ≡ given_fed r (standing_of (node_of y)) → (words : Words) → (ch : Choices) × Steps (client_step words ch (node_of x) now k bytes) x y o
live_given now k session bytes p x y r o same h ends serving fed is words =
    let d = fed (words (node_of x)) in
    let z = fed_steps words now k bytes x y r (subst Holds same h) (subst (λ (q : Parts). q.member.vars.commit ≤ last_index q.member.held.log) same ends) d (live_end d.at.was.connection bytes session (sym (ap served_at d.at.there) ∙ serving)) in
    (z.0, subst (Steps (client_step words z.0 (node_of x) now k bytes) x y) (sym is) z.1)

-- ---- where nothing is taken

abbrev no_out : RaftOut Snapshot
no_out = record { added = 0; truncated = None; image = None; records = []; mail = [] }

abbrev pub one_more : Parts → Parts
one_more p = record p { events = p.events + 1 }

pub counted_holds : (p x : Parts) → p ≡ x → Holds p → x.events < 2 ^ 62 → Holds (one_more p)
counted_holds p x same h few = record {
  few = h.few;
  rest = h.rest;
  kept = h.kept;
  unapplied = h.unapplied;
  from = h.from;
  to = h.to;
  served = h.served;
  counted = let e = ap (λ (q : Parts). q.events) same in omega (arith, e, few);
}

module _ (words : Words) (ch : Choices) (now k : ℕ) (bytes : List ℕ) (p : Parts) (h : Holds p) where
  nothing_did : Reacts (nothing (running_of p.member)) None p no_out (one_more p)
  nothing_did = record { records = refl; mail = refl; image = refl; node = refl; swept = kept_all (λ (v : Watch). v.conn) keeps_watches p.seating.seats p.watches h.kept; counted = refl }

  abbrev unknown : Given
  unknown = quietly (says.Fed fed_words.Unknown) (standing_of (node_of p))

  still : Steps (aside ch (node_of p) (kind.Client k bytes) (turn (node_of p) (says.Fed fed_words.Unknown))) p (one_more p) unknown
  still = behind_steps ch (kind.Client k bytes) (says.Fed fed_words.Unknown) (nothing (running_of p.member)) None p (one_more p) no_out nothing_did refl refl refl

  abbrev SeatGone : Option Seat → Type 0
  SeatGone o = Steps (client_at words ch (node_of p) now k bytes o) p (one_more p) unknown

  abbrev at_over : Seat → Bool → Stepped Snapshot
  at_over s b = let input : Input Snapshot = if b then idle else (if is_csnp (end_in s.connection bytes) then asks (raft.Compact p.store.state.applied) else propose_if now (client_served words ch (node_of p) now k bytes s).desk.bodies) in
      together images ch (node_of p) (kind.Client k bytes) (reacted (node_of p) input) (installed (node_of p) input) (if b then turn (node_of p) (says.Fed fed_words.Unknown) else fed_turn (node_of p) now k s (end_in s.connection bytes) (client_served words ch (node_of p) now k bytes s))

  gone_so : (o : Option Seat) → takes_none o ≡ true → SeatGone o
  unfolding reacted installed
  gone_so None e = still
  gone_so (Some s) e = subst (λ b. Steps (at_over s b) p (one_more p) unknown) (sym e) still

pub gone_given : (now k : ℕ) (bytes : List ℕ) (p x y : Parts) (o : Given) → p ≡ x → Holds p → takes_none (map.get x.seating.seats k) ≡ true → y ≡ one_more x → o ≡ quietly (says.Fed fed_words.Unknown) (standing_of (node_of y)) → (words : Words) (ch : Choices) → Steps (client_step words ch (node_of x) now k bytes) x y o
gone_given now k bytes p x y o same h none is given words ch =
    subst (Steps (client_step words ch (node_of x) now k bytes) x y) (sym given)
    (subst (λ z. Steps (client_step words ch (node_of x) now k bytes) x z (quietly (says.Fed fed_words.Unknown) (standing_of (node_of z)))) (sym is)
    (gone_so words ch now k bytes x (subst Holds same h) (map.get x.seating.seats k) none))
