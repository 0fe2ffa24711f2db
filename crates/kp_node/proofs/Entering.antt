-- What Raft and the storage took of an append, and what follows of it, is the step.
use Rattle.std.proofs.Common.{◌≡◌, ℕ, ◌+◌, ◌-◌, ◌≤◌, ◌<◌, ◌^◌, Bool, true, false, List, [], length, max, Option, Some, None, refl, ap, sym, subst, ◌∙◌, arith, append-nil}
use Rattle.std.proofs.lemmas.Bool.Decides.{nat_tests}
use Rattle.std.specs.Prelude.{map, nat_lt, if◌then◌else◌}
use Rattle.std.specs.FinMap as map
use Rattle.kp_entry.specs.Held.{replay}
use Rattle.kp_model.specs.Store.{Store}
use Rattle.kp_raft.specs.declared.append.AppendMail.{AppendMail}
use Rattle.kp_raft.specs.declared.event.RaftOut.{RaftOut}
use Rattle.kp_raft.specs.declared.mail.Mail.TheVariants as mail
use Rattle.kp_raft.specs.Parts as raft
use Rattle.kp_raft.specs.Members.{Member}
use Rattle.kp_event.specs.declared.event.NodeEventKind.TheVariants as kind
use Rattle.kp_snapshot.specs.Snapshots.{Snapshot}
use Rattle.kp_seats.specs.Seating.{Seating}
use Rattle.kp_watch.specs.declared.watch.Watch.{Watch}
use Rattle.kp_conn.specs.declared.phase.Phase.{Phase}
use Rattle.kp_conn.specs.declared.phase.Phase.TheVariants as phase
use Rattle.kp_conn.specs.Connection.{Connection}
use Rattle.kp_step.specs.declared.seat.Seat.{Seat}
use Rattle.kp_step.specs.Choices.{Choices}
use Rattle.kp_step.specs.Node.{Node, Seats}
use Rattle.kp_step.specs.Asking.{Words, asked, reacted, installed, cut_at, own_image}
use Rattle.kp_step.specs.Committing.{hear_all}
use Rattle.kp_step.specs.Tables.{Row, tabled}
use Rattle.kp_step.specs.Step.{together, raft_table, with_row_if, risen, risen_as, heard_after, all_heard, standing_of, swept, count_lost, newly_ready, filled, step, turned}
use Rattle.kp_step.proofs.Resting.{raft_quiet, AllQuiet}
use Rattle.kp_node.specs.declared.outcome.Outcome.{Outcome}
use Rattle.kp_node.specs.declared.walking.Before.{Before}
use Rattle.kp_node.specs.declared.append_events.Taken.{Taken}
use Rattle.kp_node.specs.Parts.{Parts, node_of}
use Rattle.kp_node.specs.Holding.{Holds, AreKept}
use Rattle.kp_node.specs.Steps.{images, Steps}
use Rattle.kp_node.specs.Ahead.{IsLooked}
use Rattle.kp_node.specs.Appending.{Appends, takes}
use Rattle.kp_node.specs.Filling.{answers}
use Rattle.kp_node.specs.Reactions.{Turns}
use Rattle.kp_node.specs.Taking.{IsTaken, append_with, append_step, given_of}
use Rattle.kp_node.proofs.Answered.{append_answers}
use Rattle.kp_node.proofs.Reacted.{Tables, tables, swept_kept}

pub at_append : (words : Words) (ch : Choices) (x : Node) (now : ℕ) (m : AppendMail) → step words images ch x (record { now = now; kind = kind.Deliver (mail.Append m) }) ≡ append_step ch x now m
unfolding step asked reacted installed turned
at_append words ch x now m = refl

-- how many entries of an append find memory says nothing of the connections
row_as_luck : (ch : Choices) (room : Option ℕ) (zxid j k : ℕ) (d c : Connection) (p : Phase) → risen_as (record ch { room = room }) zxid j d p k c ≡ risen_as ch zxid j d p k c
row_as_luck ch room zxid j k d c phase.Fresh = refl
row_as_luck ch room zxid j k d c (phase.Connecting ro) = refl
row_as_luck ch room zxid j k d c (phase.Live s e n) = refl
row_as_luck ch room zxid j k d c (phase.Closing lost) = refl

row_luck : (ch : Choices) (room : Option ℕ) (zxid : ℕ) → ◌≡◌ {A = Row} (risen (record ch { room = room }) zxid) (risen ch zxid)
row_luck ch room zxid = λ i k c. row_as_luck ch room zxid k k c c c.phase i

module _ (now : ℕ) (m : AppendMail) (x y : Parts) (r : Taken) (h : Holds x) (d : IsTaken m x r y) where
  abbrev did : raft.Outcome Snapshot
  did = takes x.member m d.count

  abbrev rises : Bool
  rises = nat_lt x.member.held.term (replay x.member.held did.records).term

  made : Tables rises x.store.state.applied x.seating x.watches y.seating y.watches r.ready r.lost
  made = tables rises x.store.state.applied x.seating x.watches y.seating y.watches r.ready r.lost d.turns h.kept h.served

  abbrev chosen : Choices
  chosen = record made.ch { room = Some d.count }

  seats_are : y.seating.seats ≡ (raft_table chosen (node_of x) did None).seats
  unfolding raft_table
  seats_are = made.seats ∙ ap (λ (f : Row). (with_row_if rises f (tabled x.seating.seats x.watches)).seats) (sym (row_luck made.ch (Some d.count) x.store.state.applied))

  watches_stay : (raft_table chosen (node_of x) did None).watches ≡ x.watches
  unfolding raft_table
  watches_stay = ap (λ (f : Row). (with_row_if rises f (tabled x.seating.seats x.watches)).watches) (row_luck made.ch (Some d.count) x.store.state.applied) ∙ made.plain

  heard_are : y.heard ≡ heard_after (node_of x) now (kind.Deliver (mail.Append m)) did None x.store.state
  unfolding hear_all
  heard_are = d.heard ∙ sym (ap (λ b. if b then all_heard now x.store.state.sessions else x.heard) (append_answers x.member m d.count).follows)

  node_is : node_of y ≡ (append_with chosen (node_of x) now m d.count).node
  unfolding together
  node_is = λ i. record {
    me = d.me i;
    members = d.members i;
    boot = d.boot i;
    held = d.held i;
    running = d.running i;
    state = d.state i;
    seats = seats_are i;
    next = made.next i;
    watches = (made.watches ∙ (λ j. swept (seats_are j) (sym watches_stay j))) i;
    heard = heard_are i;
    spoken = d.spoken i;
  }

  steps_with : Steps (append_with chosen (node_of x) now m d.count) x y (given_of r (standing_of (node_of y)))
  unfolding together
  steps_with = record {
    is = record {
      node = node_is;
      said = refl;
      records = d.records;
      image = sym (ap (λ b. if b then Some (own_image images (node_of x)) else None) (append_answers x.member m d.count).open_);
      mail = d.mail ∙ sym (append-nil (map (filled x.spoken) did.mail));
      cut = d.cut ∙ ap (λ n. cut_at n (length m.entries)) d.room;
      lost = made.lost ∙ ap (λ s. count_lost s - count_lost x.seating.seats) seats_are;
      standing = ap standing_of node_is;
      ready = made.ready ∙ ap (newly_ready x.seating.seats) seats_are;
    };
    counted = d.events;
  }

  pub by_choices : (ch : Choices) × Steps (append_step ch (node_of x) now m) x y (given_of r (standing_of (node_of y)))
  by_choices = (chosen, subst (λ n. Steps (append_with chosen (node_of x) now m n) x y (given_of r (standing_of (node_of y)))) d.room steps_with)

  pub taken_holds : x.events < 2 ^ 62 → Holds y
  taken_holds few = record {
    few = subst (λ n. n ≤ 7) (sym d.members) h.few;
    rest = subst AllQuiet (sym seats_are) (raft_quiet chosen (node_of x) did None h.rest);
    kept = subst (AreKept y.seating.seats) (sym made.watches) (swept_kept y.seating.seats x.watches);
    unapplied = d.agrees.unapplied;
    from = d.agrees.from;
    to = d.agrees.to;
    served = made.served;
    counted = let a = d.events in omega (arith, a, few);
  }

-- the connections were looked at where the term rises
pub looked : (b c : Bool) (s : Seats) (o : Option Before) → (b ≡ true → c ≡ true) → IsLooked c s o → IsLooked b s o
looked true c s None may is = sym (may refl) ∙ is
looked false c s None may is = refl
looked b c s (Some before) may is = is

pub rises_low : (a b t : ℕ) → b ≤ max a t → nat_lt a b ≡ true → nat_lt a t ≡ true
rises_low a b t low e = grind (arith, nat_tests, low, e)

pub looked_so : (x y : Member) (m : AppendMail) (s : Store) (out : RaftOut Snapshot) (j : ℕ) (t : Store) → Appends m x s out j y t → (seats : Seats) (o : Option Before) (term term' : ℕ) → term ≡ x.held.term → term' ≡ y.held.term → IsLooked (nat_lt term m.term) seats o → IsLooked (nat_lt term term') seats o
looked_so x y m s out j t a seats o term term' is is' h =
    let low : y.held.term ≤ max x.held.term m.term = subst (λ k. k ≤ max x.held.term m.term) (sym (ap (λ k. k.term) a.steps.held)) (append_answers x m j).low in
    looked (nat_lt term term') (nat_lt term m.term) seats o (rises_low term term' m.term (omega (arith, low, is, is'))) h

pub few_mail : (x y : Member) (m : AppendMail) (s : Store) (out : RaftOut Snapshot) (j : ℕ) (t : Store) → Appends m x s out j y t → length out.mail ≤ 1
few_mail x y m s out j t a = subst (λ ms. length ms ≤ 1) (sym a.steps.mail) (append_answers x m j).few

-- ---- as the code has it

module _ (p : Parts) (m : AppendMail) (y : Member) (t : Store) (u : Seating Seat) (vs : List Watch) (out : RaftOut Snapshot) (j : ℕ) (ready : List ℕ) (lost term term' zxid : ℕ) (cut : Option ℕ) (r : Taken) (spoken : List ℕ)
    (a : Appends m p.member p.store out j y t) (is_term : term ≡ p.member.held.term) (is_term' : term' ≡ y.held.term) (is_zxid : zxid ≡ t.state.applied) (turns : Turns (nat_lt term term') zxid p.seating p.watches u vs ready lost)
    (is_cut : cut ≡ cut_at j (length m.entries)) (is : r ≡ record { records = out.records; mail = map (filled p.spoken) out.mail; ready = ready; lost = lost; cut = cut }) (spoken_is : spoken ≡ (if answers out.mail then [] else p.spoken)) where
  abbrev behind_it : Parts
  behind_it = record { member = y; store = t; seating = u; watches = vs; heard = p.heard; spoken = spoken; boot = p.boot; events = p.events + 1 }

  given : IsTaken m p (record { records = out.records; mail = map (filled p.spoken) out.mail; ready = ready; lost = lost; cut = cut }) behind_it
  given = record {
    count = j;
    room = a.room;
    records = a.steps.records;
    mail = ap (map (filled p.spoken)) a.steps.mail;
    me = a.steps.node;
    members = a.steps.members;
    held = a.steps.held;
    running = a.steps.running;
    turns = subst (λ b. Turns b p.store.state.applied p.seating p.watches u vs ready lost) (λ i. nat_lt (is_term i) ((is_term' ∙ ap (λ k. k.term) a.steps.held) i))
        (subst (λ z. Turns (nat_lt term term') z p.seating p.watches u vs ready lost) (is_zxid ∙ ap (λ z. z.applied) a.state) turns);
    state = a.state;
    agrees = a.agrees;
    heard = refl;
    spoken = spoken_is ∙ ap (λ ms. if answers ms then [] else p.spoken) a.steps.mail;
    boot = refl;
    events = refl;
    cut = is_cut;
  }

  pub taken_so : IsTaken m p r behind_it
  taken_so = subst (λ (z : Taken). IsTaken m p z behind_it) (sym is) given

  pub taken_so_at : (x : Parts) → p ≡ x → IsTaken m x r behind_it
  taken_so_at x same = subst (λ (z : Parts). IsTaken m z r behind_it) same taken_so

  pub taken_so_holds : (x : Parts) → p ≡ x → Holds p → x.events < 2 ^ 62 → Holds behind_it
  taken_so_holds x same h few = taken_holds 0 m p behind_it r h taken_so (subst (λ (z : Parts). z.events < 2 ^ 62) (sym same) few)

pub append_given : (now : ℕ) (m : AppendMail) (p x y : Parts) (r : Taken) (g : Outcome) → p ≡ x → Holds p → IsTaken m x r y → g ≡ given_of r (standing_of (node_of y)) → (ch : Choices) × Steps (append_step ch (node_of x) now m) x y g
append_given now m p x y r g is h d given =
    let z = by_choices now m x y r (subst Holds is h) d in
    (z.0, subst (Steps (append_step z.0 (node_of x) now m) x y) (sym given) z.1)
