-- What Raft, the storage and the deadlines took of an image, and what follows of it, is the step.
use Rattle.std.proofs.Common.{◌≡◌, ℕ, ◌+◌, ◌-◌, ◌≤◌, ◌<◌, ◌^◌, Bool, true, false, not, ◌&&◌, ◌||◌, List, [], ◌∷◌, ◌++◌, length, max, Option, Some, None, is_some, refl, ap, sym, subst, ◌∙◌, arith, append-nil}
use Rattle.std.proofs.lemmas.Bool.Decides.{nat_tests}
use Rattle.std.specs.Prelude.{map, nat_lt, nat_le, if◌then◌else◌}
use Rattle.std.specs.Ordering.{nat_cmp}
use Rattle.std.specs.FinMap as map
use Rattle.std.specs.FinMap.{FinMap}
use Rattle.kp_entry.specs.declared.record.Record.{Record}
use Rattle.kp_entry.specs.declared.record.Record.TheVariants as record_
use Rattle.kp_entry.specs.Log.{last_index}
use Rattle.kp_entry.specs.Held.{Held, replay}
use Rattle.kp_entry.proofs.Replays.{replay_append}
use Rattle.kp_model.specs.State.{State}
use Rattle.kp_model.specs.Store.{Store}
use Rattle.kp_raft.specs.declared.event.RaftOut.{RaftOut}
use Rattle.kp_raft.specs.declared.event.RaftEvent.TheVariants as event
use Rattle.kp_raft.specs.Parts.{Running, Outcome, nothing, is_leader, vote_records, vote_at}
use Rattle.kp_raft.specs.Steps.{passes}
use Rattle.kp_raft.specs.Members.{Member, running_of}
use Rattle.kp_raft.proofs.Replays.{replay_vote}
use Rattle.kp_event.specs.declared.event.NodeEventKind.TheVariants as kind
use Rattle.kp_snapshot.specs.Snapshots.{Snapshot}
use Rattle.kp_seats.specs.Seating.{Seating}
use Rattle.kp_watch.specs.declared.watch.Watch.{Watch}
use Rattle.kp_expiry.specs.declared.heard.Heard.{Heard}
use Rattle.kp_step.specs.declared.seat.Seat.{Seat}
use Rattle.kp_step.specs.Choices.{Choices}
use Rattle.kp_step.specs.Node.{Node, Seats}
use Rattle.kp_step.specs.Asking.{Words, Input, idle, asks, asked, reacted, installed, is_whole, own_image}
use Rattle.kp_step.specs.Committing.{hear_all}
use Rattle.kp_step.specs.Step.{together, raft_table, heard_after, all_heard, standing_of, swept, count_lost, newly_ready, filled, step, turned, state_of, base_image, ends_in_base}
use Rattle.kp_step.proofs.Resting.{raft_quiet, AllQuiet}
use Rattle.kp_node.specs.declared.outcome.Outcome.{Outcome as Given}
use Rattle.kp_node.specs.declared.walking.Before.{Before}
use Rattle.kp_node.specs.declared.installs.Sending.{Sending}
use Rattle.kp_node.specs.declared.install_events.Moved.{Moved}
use Rattle.kp_node.specs.Parts.{Parts, node_of}
use Rattle.kp_node.specs.Holding.{Holds, AreKept}
use Rattle.kp_node.specs.Steps.{images, Steps}
use Rattle.kp_node.specs.Ahead.{IsLooked}
use Rattle.kp_node.specs.Filling.{answers}
use Rattle.kp_node.specs.Installing.{Installs, mail_of, reaction_to, image_by, state_behind}
use Rattle.kp_node.specs.Leaving.{Leaves}
use Rattle.kp_node.specs.Replacing.{IsMoved, install_input, install_with, install_as, install_step, given_behind_it}
use Rattle.kp_node.proofs.Answered.{votes_open, not_both, not_false}
use Rattle.kp_node.proofs.Installed.{reaction_as, image_as}
use Rattle.kp_node.proofs.Entering.{looked, rises_low}
use Rattle.kp_node.proofs.Left.{Left, left}
use Rattle.kp_node.proofs.Reacted.{swept_kept}

pub at_install : (words : Words) (ch : Choices) (x : Node) (now : ℕ) (q : Sending) → step words images ch x (record { now = now; kind = kind.Deliver (mail_of q) }) ≡ install_step ch x now q
unfolding step asked turned
at_install words ch x now q = refl

-- ---- what Raft does with an image: at most one message, no new leader, no base but the image's, and a term that is its own or the sender's

pub record Replies (h : Held) (v : Running) (q : Sending) (o : Outcome Snapshot) (i : Option Snapshot) : Type 0 where
  pub few : length o.mail ≤ 1
  pub open_ : i ≡ None → ends_in_base o.records ≡ false
  pub follows : (not (is_leader v.role) && is_leader o.running.role) ≡ false
  pub low : (replay h o.records).term ≤ max h.term q.term
  pub above : is_some i ≡ true → nat_lt v.commit q.index ≡ true

above_so : (a b : ℕ) → nat_le a b ≡ false → nat_lt b a ≡ true
above_so a b e = grind (arith, nat_tests, e)

module _ (me : ℕ) (h : Held) (v : Running) (q : Sending) where
  voted_low : (replay h (vote_records h q.term (vote_at h q.term))).term ≤ max h.term q.term
  voted_low = let same : (replay h (vote_records h q.term (vote_at h q.term))).term ≡ q.term = ap (λ (k : Held). k.term) (replay_vote h q.term (vote_at h q.term)) in omega (arith, same)

  based_low : (replay h (vote_records h q.term (vote_at h q.term) ++ record_.Base q.index q.index_term ∷ [])).term ≤ max h.term q.term
  based_low =
      let same : (replay h (vote_records h q.term (vote_at h q.term) ++ record_.Base q.index q.index_term ∷ [])).term ≡ q.term
      = ap (λ (k : Held). k.term) (replay_append h (vote_records h q.term (vote_at h q.term)) (record_.Base q.index q.index_term ∷ []) ∙ ap (λ (k : Held). replay k (record_.Base q.index q.index_term ∷ [])) (replay_vote h q.term (vote_at h q.term))) in
      omega (arith, same)

  replied : (a b c : Bool) → nat_le q.index v.commit ≡ c → Replies h v q (reaction_as me h v q.term q.from q.index q.index_term q.image a b c) (image_as me h v q.term q.from q.index q.index_term q.image a b c)
  replied false b c e = record { few = omega arith; open_ = λ n. refl; follows = not_both (is_leader v.role); low = omega arith; above = λ s. absurd (cc s) }
  replied true true c e = record { few = omega arith; open_ = λ n. refl; follows = not_both (is_leader v.role); low = omega arith; above = λ s. absurd (cc s) }
  replied true false true e = record { few = omega arith; open_ = λ n. votes_open h q.term (vote_at h q.term); follows = not_false (is_leader v.role); low = voted_low; above = λ s. absurd (cc s) }
  replied true false false e = record { few = omega arith; open_ = λ n. absurd (cc n); follows = not_false (is_leader v.role); low = based_low; above = λ s. above_so q.index v.commit e }

pub install_replies : (x : Member) (q : Sending) → Replies x.held (running_of x) q (reaction_to x (mail_of q)) (image_by x (mail_of q))
install_replies x q = replied x.node x.held (running_of x) q (passes x.members x.node (last_index x.held.log) (mail_of q)) (nat_lt q.term x.held.term) (nat_le q.index x.vars.commit) refl

-- ---- the step

or_none : (a b : Bool) → b ≡ false → (a || b) ≡ a
or_none true b e = refl
or_none false b e = e

base_is : (x : Node) (i : Option Snapshot) (rs : List Record) → (i ≡ None → ends_in_base rs ≡ false) → i ≡ base_image images x rs i
base_is x None rs h = sym (ap (λ b. if b then Some (own_image images x) else None) (h refl))
base_is x (Some i) rs h = refl

state_same : (s : Store) (i : Option Snapshot) → state_behind s i ≡ state_of images s.state i
state_same s None = refl
state_same s (Some i) = refl

module _ (now : ℕ) (q : Sending) (o : Outcome Snapshot) (i : Option Snapshot) (x y : Parts) (r : Moved) (h : Holds x) (follows : (not (is_leader x.member.vars.role) && is_leader o.running.role) ≡ false) (d : IsMoved now o i x r y) where
  abbrev rises : Bool
  rises = nat_lt x.member.held.term (replay x.member.held o.records).term

  made : Left (is_some i) rises x.store.state.applied x.seating x.watches y.seating y.watches r.ready r.lost
  made = left (is_some i) rises x.store.state.applied x.seating x.watches y.seating y.watches r.ready r.lost d.leaves h.kept h.served

  seats_are : y.seating.seats ≡ (raft_table made.ch (node_of x) o i).seats
  unfolding raft_table
  seats_are = made.seats

  watches_stay : (raft_table made.ch (node_of x) o i).watches ≡ x.watches
  unfolding raft_table
  watches_stay = made.plain

  state_is : y.store.state ≡ state_of images x.store.state i
  state_is = d.state ∙ state_same x.store i

  heard_are : y.heard ≡ heard_after (node_of x) now (kind.Deliver (mail_of q)) o i (state_of images x.store.state i)
  unfolding hear_all
  heard_are = d.heard ∙ ap (λ (s : State). if is_some i then all_heard now s.sessions else x.heard) state_is
      ∙ sym (ap (λ b. if b then all_heard now (state_of images x.store.state i).sessions else x.heard) (or_none (is_some i) (not (is_leader x.member.vars.role) && is_leader o.running.role) follows))

  node_is : node_of y ≡ (install_with made.ch (node_of x) now q o i).node
  unfolding together
  node_is = λ j. record {
    me = d.me j;
    members = d.members j;
    boot = d.boot j;
    held = d.held j;
    running = d.running j;
    state = state_is j;
    seats = seats_are j;
    next = made.next j;
    watches = (made.watches ∙ (λ k. swept (seats_are k) (sym watches_stay k))) j;
    heard = heard_are j;
    spoken = d.spoken j;
  }

  moved_steps : (i ≡ None → ends_in_base o.records ≡ false) → Steps (install_with made.ch (node_of x) now q o i) x y (given_behind_it r (standing_of (node_of y)))
  unfolding together
  moved_steps closed_ = record {
    is = record {
      node = node_is;
      said = refl;
      records = d.records;
      image = d.image ∙ base_is (node_of x) i o.records closed_;
      mail = d.mail ∙ sym (append-nil (map (filled x.spoken) o.mail));
      cut = refl;
      lost = made.lost ∙ ap (λ s. count_lost s - count_lost x.seating.seats) seats_are;
      standing = ap standing_of node_is;
      ready = made.ready ∙ ap (newly_ready x.seating.seats) seats_are;
    };
    counted = d.events;
  }

  pub by_choices : (i ≡ None → ends_in_base o.records ≡ false) → (ch : Choices) × Steps (install_with ch (node_of x) now q o i) x y (given_behind_it r (standing_of (node_of y)))
  by_choices closed_ = (made.ch, moved_steps closed_)

  pub moved_holds : x.events < 2 ^ 62 → Holds y
  moved_holds few = record {
    few = subst (λ n. n ≤ 7) (sym d.members) h.few;
    rest = subst AllQuiet (sym seats_are) (raft_quiet made.ch (node_of x) o i h.rest);
    kept = subst (AreKept y.seating.seats) (sym made.watches) (swept_kept y.seating.seats x.watches);
    unapplied = d.agrees.unapplied;
    from = d.agrees.from;
    to = d.agrees.to;
    served = made.served;
    counted = let a = d.events in omega (arith, a, few);
  }

-- ---- what is whole, and what isn't

whole_input : (q : Sending) → is_whole images q.index q.index_term q.image ≡ true → install_input q ≡ asks (event.Deliver (mail_of q))
whole_input q is = ap (λ (b : Bool). let z : Input Snapshot = if b then asks (event.Deliver (mail_of q)) else idle in z) is

part_input : (q : Sending) → is_whole images q.index q.index_term q.image ≡ false → install_input q ≡ idle
part_input q is = ap (λ (b : Bool). let z : Input Snapshot = if b then asks (event.Deliver (mail_of q)) else idle in z) is

pub whole_given : (now : ℕ) (q : Sending) (p x y : Parts) (r : Moved) (g : Given) → p ≡ x → Holds p → is_whole images q.index q.index_term q.image ≡ true → IsMoved now (reaction_to x.member (mail_of q)) (image_by x.member (mail_of q)) x r y → g ≡ given_behind_it r (standing_of (node_of y))
    → (ch : Choices) × Steps (install_step ch (node_of x) now q) x y g
unfolding reacted installed
whole_given now q p x y r g is h whole d given =
    let f = install_replies x.member q in
    let z = by_choices now q (reaction_to x.member (mail_of q)) (image_by x.member (mail_of q)) x y r (subst Holds is h) f.follows d f.open_ in
    (z.0, subst (Steps (install_step z.0 (node_of x) now q) x y) (sym given) (subst (λ (input : Input Snapshot). Steps (install_as z.0 (node_of x) now q input) x y (given_behind_it r (standing_of (node_of y)))) (sym (whole_input q whole)) z.1))

pub part_given : (now : ℕ) (q : Sending) (p x y : Parts) (r : Moved) (g : Given) → p ≡ x → Holds p → is_whole images q.index q.index_term q.image ≡ false → IsMoved now (nothing (running_of x.member)) None x r y → g ≡ given_behind_it r (standing_of (node_of y))
    → (ch : Choices) × Steps (install_step ch (node_of x) now q) x y g
unfolding reacted installed
part_given now q p x y r g is h part d given =
    let z = by_choices now q (nothing (running_of x.member)) None x y r (subst Holds is h) (not_both (is_leader x.member.vars.role)) d (λ n. refl) in
    (z.0, subst (Steps (install_step z.0 (node_of x) now q) x y) (sym given) (subst (λ (input : Input Snapshot). Steps (install_as z.0 (node_of x) now q input) x y (given_behind_it r (standing_of (node_of y)))) (sym (part_input q part)) z.1))

-- ---- as the code has it

may_by : (taken rose up more : Bool) → (taken ≡ true → up ≡ true) → (rose ≡ true → more ≡ true) → (taken || rose) ≡ true → (up || more) ≡ true
may_by true rose up more f g e = ap (λ b. b || more) (f refl)
may_by false rose true more f g e = refl
may_by false rose false more f g e = g e

module _ (p : Parts) (now : ℕ) (q : Sending) (y : Member) (t : Store) (heard : FinMap nat_cmp Heard) (out : RaftOut Snapshot) (d : Installs now (mail_of q) p.member p.store p.heard out y t heard) (term term' : ℕ) (is_term : term ≡ p.member.held.term) (is_term' : term' ≡ y.held.term) where
  pub few_mail : length out.mail ≤ 1
  few_mail = subst (λ ms. length ms ≤ 1) (sym d.steps.mail) (install_replies p.member q).few

  pub left_looked : (seats : Seats) (o : Option Before) (may taken : Bool) → may ≡ (nat_lt p.member.vars.commit q.index || nat_lt p.member.held.term q.term) → taken ≡ is_some out.image → IsLooked may seats o → IsLooked (taken || nat_lt term term') seats o
  left_looked seats o may taken is_may is_taken h =
      let f = install_replies p.member q in
      let low : y.held.term ≤ max p.member.held.term q.term = subst (λ k. k ≤ max p.member.held.term q.term) (sym (ap (λ k. k.term) d.steps.held)) f.low in
      let rises_ : nat_lt term term' ≡ true → nat_lt p.member.held.term q.term ≡ true = λ e. rises_low p.member.held.term y.held.term q.term low ((λ i. nat_lt (sym is_term i) (sym is_term' i)) ∙ e) in
      looked (taken || nat_lt term term') may seats o (λ e. is_may ∙ may_by taken (nat_lt term term') (nat_lt p.member.vars.commit q.index) (nat_lt p.member.held.term q.term) (λ s. f.above (ap is_some (sym d.image) ∙ sym is_taken ∙ s)) rises_ e) h

  module _ (u : Seating Seat) (vs : List Watch) (ready : List ℕ) (lost zxid : ℕ) (taken : Bool) (r : Moved) (spoken : List ℕ)
      (is_zxid : zxid ≡ p.store.state.applied) (is_taken : taken ≡ is_some out.image) (leaves : Leaves (nat_lt term term') taken zxid p.seating p.watches u vs ready lost)
      (is : r ≡ record { records = out.records; mail = map (filled p.spoken) out.mail; image = out.image; ready = ready; lost = lost }) (spoken_is : spoken ≡ (if answers out.mail then [] else p.spoken)) where
    abbrev behind_it : Parts
    behind_it = record { member = y; store = t; seating = u; watches = vs; heard = heard; spoken = spoken; boot = p.boot; events = p.events + 1 }

    given : IsMoved now (reaction_to p.member (mail_of q)) (image_by p.member (mail_of q)) p (record { records = out.records; mail = map (filled p.spoken) out.mail; image = out.image; ready = ready; lost = lost }) behind_it
    given = record {
      records = d.steps.records;
      mail = ap (map (filled p.spoken)) d.steps.mail;
      image = d.image;
      me = d.steps.node;
      members = d.steps.members;
      held = d.steps.held;
      running = d.steps.running;
      leaves = subst (λ (b : Bool). Leaves b (is_some (image_by p.member (mail_of q))) p.store.state.applied p.seating p.watches u vs ready lost) (λ i. nat_lt (is_term i) ((is_term' ∙ ap (λ k. k.term) d.steps.held) i))
          (subst (λ (b : Bool). Leaves (nat_lt term term') b p.store.state.applied p.seating p.watches u vs ready lost) (is_taken ∙ ap is_some d.image)
          (subst (λ z. Leaves (nat_lt term term') taken z p.seating p.watches u vs ready lost) is_zxid leaves));
      state = d.state ∙ ap (state_behind p.store) d.image;
      agrees = d.agrees;
      heard = d.heard ∙ ap (λ (i : Option Snapshot). if is_some i then all_heard now t.state.sessions else p.heard) d.image;
      spoken = spoken_is ∙ ap (λ ms. if answers ms then [] else p.spoken) d.steps.mail;
      boot = refl;
      events = refl;
    }

    moved_so : IsMoved now (reaction_to p.member (mail_of q)) (image_by p.member (mail_of q)) p r behind_it
    moved_so = subst (λ (z : Moved). IsMoved now (reaction_to p.member (mail_of q)) (image_by p.member (mail_of q)) p z behind_it) (sym is) given

    pub moved_so_at : (x : Parts) → p ≡ x → IsMoved now (reaction_to x.member (mail_of q)) (image_by x.member (mail_of q)) x r behind_it
    moved_so_at x same = subst (λ (z : Parts). IsMoved now (reaction_to z.member (mail_of q)) (image_by z.member (mail_of q)) z r behind_it) same moved_so

    pub moved_so_holds : (x : Parts) → p ≡ x → Holds p → x.events < 2 ^ 62 → Holds behind_it
    moved_so_holds x same h few = moved_holds now q (reaction_to p.member (mail_of q)) (image_by p.member (mail_of q)) p behind_it r h (install_replies p.member q).follows moved_so (subst (λ (z : Parts). z.events < 2 ^ 62) (sym same) few)
