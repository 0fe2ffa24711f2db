-- What Raft made of an event, and what follows of it, is the step.
use Rattle.std.proofs.Common.{◌≡◌, ℕ, ◌+◌, ◌-◌, ◌≤◌, ◌<◌, ◌^◌, Bool, true, false, cond, not, ◌&&◌, List, [], ◌∷◌, ◌++◌, Option, Some, None, refl, ap, sym, subst, ◌∙◌, arith, append-nil}
use Rattle.std.specs.Prelude.{map, nat_lt, if◌then◌else◌}
use Rattle.std.specs.Ordering.{nat_cmp}
use Rattle.std.specs.FinMap as map
use Rattle.std.specs.FinMap.{FinMap}
use Rattle.std.proofs.lemmas.List.{drop-append-le}
use Rattle.kp_entry.specs.Log.{Log, behind, last_index}
use Rattle.kp_raft.specs.declared.event.RaftEvent.{RaftEvent}
use Rattle.kp_raft.specs.declared.event.RaftOut.{RaftOut}
use Rattle.kp_model.specs.Store.{Store}
use Rattle.kp_raft.specs.declared.mail.Mail.{Mail}
use Rattle.kp_raft.specs.declared.mail.Mail.TheVariants as mail
use Rattle.kp_event.specs.declared.event.NodeEventKind.TheVariants as kind
use Rattle.kp_node.specs.declared.outcome.Outcome.{Outcome}
use Rattle.kp_raft.specs.Members.{Member, Steps as RaftSteps}
use Rattle.kp_raft.specs.Parts as raft
use Rattle.kp_raft.specs.declared.event.RaftEvent.TheVariants as asked
use Rattle.kp_event.specs.declared.event.NodeEventKind.{NodeEventKind}
use Rattle.kp_snapshot.specs.Snapshots.{Snapshot}
use Rattle.kp_seats.specs.Seating.{Seating}
use Rattle.kp_watch.specs.declared.watch.Watch.{Watch}
use Rattle.kp_expiry.specs.declared.heard.Heard.{Heard}
use Rattle.kp_step.specs.declared.seat.Seat.{Seat}
use Rattle.kp_step.specs.Choices.{Choices}
use Rattle.kp_step.specs.Node.{Node, Seats}
use Rattle.kp_step.specs.Asking.{cut_of}
use Rattle.kp_step.specs.Committing.{hear_all}
use Rattle.kp_step.specs.Tables.{with_row, tabled}
use Rattle.kp_step.specs.Step.{together, raft_table, with_row_if, risen, became_leader, named, heard_after, all_heard, standing_of, swept, count_lost, newly_ready, is_ready, keeps_watches, answers_append, filled}
use Rattle.kp_step.proofs.Resting.{raft_quiet, AllQuiet}
use Rattle.kp_step.specs.Asking.{own_image}
use Rattle.kp_node.specs.declared.raft_events.Reaction.{Reaction}
use Rattle.kp_node.specs.Parts.{Parts, node_of}
use Rattle.kp_node.specs.Holding.{Holds, AreKept, served_at}
use Rattle.kp_node.specs.Steps.{images, Steps}
use Rattle.kp_node.specs.Foreseen.{reaction, becomes_leader, rises, noops, with_noops, log_with, IsForeseen, IsUsual, NamesNone}
use Rattle.kp_node.specs.Reactions.{raft_step, Turns, heard_if, IsReaction, IsDelivered, given_by}
use Rattle.kp_node.proofs.Maps.{filter_none, kept_all}
use Rattle.kp_node.proofs.Risen.{choices, risen_seats}

but_not : (b : Bool) → (b && not b) ≡ false
but_not true = refl
but_not false = refl

none_new : (m : Seats) → newly_ready m m ≡ []
none_new m = filter_none _ _ (λ q. but_not (is_ready (map.get m q)))

none_lost : (n : ℕ) → n - n ≡ 0
none_lost n = omega arith

pub any : Choices
any = record { room = None; luck = λ q. record { events = None; requests = None; answers = None } }

-- ---- the connections

-- by some choices they are those of the table
pub record Tables (b : Bool) (zxid : ℕ) (t : Seating Seat) (ws : List Watch) (u : Seating Seat) (vs : List Watch) (list : List ℕ) (count : ℕ) : Type 0 where
  pub ch : Choices
  pub seats : u.seats ≡ (with_row_if b (risen ch zxid) (tabled t.seats ws)).seats
  pub next : u.next ≡ t.next
  pub served : (q : ℕ) → map.get u.sessions q ≡ served_at (map.get u.seats q)
  pub plain : (with_row_if b (risen ch zxid) (tabled t.seats ws)).watches ≡ ws
  pub watches : vs ≡ swept u.seats ws
  pub ready : list ≡ newly_ready t.seats u.seats
  pub lost : count ≡ count_lost u.seats - count_lost t.seats

pub tables : (b : Bool) (zxid : ℕ) (t : Seating Seat) (ws : List Watch) (u : Seating Seat) (vs : List Watch) (ready : List ℕ) (lost : ℕ)
    → Turns b zxid t ws u vs ready lost → AreKept t.seats ws → ((q : ℕ) → map.get t.sessions q ≡ served_at (map.get t.seats q)) → Tables b zxid t ws u vs ready lost
unfolding with_row
tables true zxid t ws u vs ready lost h kept served = record {
  ch = choices zxid t.seats u.seats h.each;
  seats = sym (risen_seats zxid t.seats u.seats h.each);
  next = h.next;
  served = h.served;
  plain = refl;
  watches = h.watches;
  ready = h.ready;
  lost = h.lost;
}
tables false zxid t ws u vs ready lost h kept served =
    let same : u.seats ≡ t.seats = ap (λ z. z.seats) h.0 in record {
      ch = any;
      seats = same;
      next = ap (λ z. z.next) h.0;
      served = subst (λ (z : Seating Seat). (q : ℕ) → map.get z.sessions q ≡ served_at (map.get z.seats q)) (sym h.0) served;
      plain = refl;
      watches = h.1.0 ∙ sym (kept_all (λ (w : Watch). w.conn) keeps_watches t.seats ws kept) ∙ ap (λ m. swept m ws) (sym same);
      ready = h.1.1.0 ∙ sym (none_new t.seats) ∙ ap (newly_ready t.seats) (sym same);
      lost = h.1.1.1 ∙ sym (none_lost (count_lost t.seats)) ∙ ap (λ m. count_lost m - count_lost t.seats) (sym same);
    }

-- what is swept is kept
pub swept_kept : (m : Seats) (ws : List Watch) → AreKept m (swept m ws)
swept_kept m [] = tt
swept_kept m (w ∷ ws) = by (keeps_watches (map.get m w.conn)) refl (swept_kept m ws)
  where
    by : (b : Bool) → keeps_watches (map.get m w.conn) ≡ b → AreKept m (swept m ws) → AreKept m (cond b (w ∷ swept m ws) (swept m ws))
    by true e h = (e, h)
    by false e h = h

-- ---- the log and the storage

same_base : (b : Bool) (lead : Option ℕ) (l : Log) → (log_with b lead l).base ≡ l.base
same_base true lead l = refl
same_base false lead l = refl

behind_with : (b : Bool) (lead : Option ℕ) (l : Log) (i : ℕ) → i ≤ last_index l → behind l i ++ (if b then noops lead else []) ≡ behind (log_with b lead l) i
behind_with true lead l i h = sym (drop-append-le (i - l.base) l.entries (noops lead) (omega (arith, h)))
behind_with false lead l i h = append-nil (behind l i)

module _ (e : RaftEvent Snapshot) (may_rise : Bool) (lead : Option ℕ) (x y : Parts) (r : Reaction) (h : Holds x) (f : IsForeseen x.member e may_rise lead) (d : IsReaction e lead x r y) where
  made : Tables (rises x.member e) x.store.state.applied x.seating x.watches y.seating y.watches r.ready r.lost
  made = tables (rises x.member e) x.store.state.applied x.seating x.watches y.seating y.watches r.ready r.lost d.turns h.kept h.served

  seats_are : y.seating.seats ≡ (raft_table made.ch (node_of x) (reaction x.member e) None).seats
  unfolding raft_table
  seats_are = made.seats

  watches_stay : (raft_table made.ch (node_of x) (reaction x.member e) None).watches ≡ x.watches
  unfolding raft_table
  watches_stay = made.plain

  state_stays : y.store.state ≡ x.store.state
  state_stays = ap (λ s. s.state) d.store

  module _ (now : ℕ) (v : NodeEventKind (Mail Snapshot)) (heard_are : y.heard ≡ heard_after (node_of x) now v (reaction x.member e) None x.store.state) (uncut : (room : Option ℕ) → cut_of room (node_of x) v ≡ None) where
    spoken_are : y.spoken ≡ (if answers_append (reaction x.member e) then [] else x.spoken)
    spoken_are = d.spoken ∙ sym (ap (λ b. if b then [] else x.spoken) f.silent)

    node_is : node_of y ≡ (raft_step made.ch (node_of x) now v (reaction x.member e)).node
    unfolding together
    node_is = λ i. record {
      me = d.me i;
      members = d.members i;
      boot = d.boot i;
      held = d.held i;
      running = d.running i;
      state = state_stays i;
      seats = seats_are i;
      next = made.next i;
      watches = (made.watches ∙ (λ j. swept (seats_are j) (sym watches_stay j))) i;
      heard = heard_are i;
      spoken = spoken_are i;
    }

    steps : Steps (raft_step made.ch (node_of x) now v (reaction x.member e)) x y (given_by r (standing_of (node_of y)))
    unfolding together
    steps = record {
      is = record {
        node = node_is;
        said = refl;
        records = d.records;
        image = sym (ap (λ b. if b then Some (own_image images (node_of x)) else None) f.based);
        mail = d.mail ∙ sym (f.plain x.spoken) ∙ sym (append-nil (map (filled x.spoken) (reaction x.member e).mail));
        cut = sym (uncut made.ch.room);
        lost = made.lost ∙ ap (λ m. count_lost m - count_lost x.seating.seats) seats_are;
        standing = ap standing_of node_is;
        ready = made.ready ∙ ap (newly_ready x.seating.seats) seats_are;
      };
      counted = d.events;
    }

    pub by_choices : (ch : Choices) × Steps (raft_step ch (node_of x) now v (reaction x.member e)) x y (given_by r (standing_of (node_of y)))
    by_choices = (made.ch, steps)

  pub reaction_holds : x.events < 2 ^ 62 → x.member.vars.commit ≤ last_index x.member.held.log → Holds y
  reaction_holds few last =
      let to : x.store.state.applied ≤ last_index x.member.held.log = let a = h.to in omega (arith, a, last) in
      let log : y.member.held.log ≡ log_with (becomes_leader x.member e) lead x.member.held.log = ap (λ k. k.log) d.held ∙ f.log in
      let base : y.member.held.log.base ≡ x.member.held.log.base = ap (λ l. l.base) log ∙ same_base (becomes_leader x.member e) lead x.member.held.log in
      let applied : y.store.state.applied ≡ x.store.state.applied = ap (λ s. s.applied) state_stays in
      let commit : y.member.vars.commit ≡ (reaction x.member e).running.commit = ap (λ v. v.commit) d.running in
      let few_members = h.few in
      let from = h.from in
      let upto = h.to in
      let more = f.commit in record {
        few = subst (λ n. n ≤ 7) (sym d.members) h.few;
        rest = subst AllQuiet (sym seats_are) (raft_quiet made.ch (node_of x) (reaction x.member e) None h.rest);
        kept = subst (AreKept y.seating.seats) (sym made.watches) (swept_kept y.seating.seats x.watches);
        unapplied = ap (λ s. s.unapplied) d.store
            ∙ ap (λ us. us ++ (if becomes_leader x.member e then noops lead else [])) h.unapplied
            ∙ behind_with (becomes_leader x.member e) lead x.member.held.log x.store.state.applied to
            ∙ (λ i. behind (sym log i) (sym applied i));
        from = omega (arith, base, applied, from);
        to = omega (arith, applied, commit, upto, more);
        served = made.served;
        counted = let a = d.events in omega (arith, a, few);
      }

-- ---- as the code has it

module _ (p : Parts) (e : RaftEvent Snapshot) (may_rise : Bool) (lead : Option ℕ) (m : Member) (s : Store) (u : Seating Seat) (vs : List Watch) (heard : FinMap nat_cmp Heard) (out : RaftOut Snapshot) (ready : List ℕ) (lost term term' zxid : ℕ) (led : Bool) where
  abbrev behind_it : Parts
  behind_it = record { member = m; store = s; seating = u; watches = vs; heard = heard; spoken = p.spoken; boot = p.boot; events = p.events + 1 }

  pub reacted : RaftSteps p.member (reaction p.member e) out m → led ≡ becomes_leader p.member e → s ≡ with_noops led lead p.store
      → term ≡ p.member.held.term → term' ≡ m.held.term → zxid ≡ s.state.applied → Turns (nat_lt term term') zxid p.seating p.watches u vs ready lost
      → IsReaction e lead p (record { records = out.records; mail = out.mail; ready = ready; lost = lost }) behind_it
  reacted st is_led is_store is_term is_term' is_zxid turns =
      let state : s.state ≡ p.store.state = ap (λ z. z.state) is_store in record {
        records = st.records;
        mail = st.mail;
        me = st.node;
        members = st.members;
        held = st.held;
        running = st.running;
        turns = subst (λ b. Turns b p.store.state.applied p.seating p.watches u vs ready lost) (λ i. nat_lt (is_term i) ((is_term' ∙ ap (λ k. k.term) st.held) i))
            (subst (λ z. Turns (nat_lt term term') z p.seating p.watches u vs ready lost) (is_zxid ∙ ap (λ z. z.applied) state) turns);
        store = is_store ∙ ap (λ b. with_noops b lead p.store) is_led;
        spoken = refl;
        boot = refl;
        events = refl;
      }

  pub reacted_holds : (x : Parts) → p ≡ x → Holds p → IsForeseen x.member e may_rise lead → x.events < 2 ^ 62 → p.member.vars.commit ≤ last_index p.member.held.log
      → RaftSteps p.member (reaction p.member e) out m → led ≡ becomes_leader p.member e → s ≡ with_noops led lead p.store
      → term ≡ p.member.held.term → term' ≡ m.held.term → zxid ≡ s.state.applied → Turns (nat_lt term term') zxid p.seating p.watches u vs ready lost
      → Holds behind_it
  reacted_holds x is h f few last st is_led is_store is_term is_term' is_zxid turns =
      reaction_holds e may_rise lead p behind_it _ h (subst (λ (z : Parts). IsForeseen z.member e may_rise lead) (sym is) f)
      (reacted st is_led is_store is_term is_term' is_zxid turns) (subst (λ (z : Parts). z.events < 2 ^ 62) (sym is) few) last

-- the sessions that are heard where none is named
module _ (now : ℕ) (x : Parts) (o : raft.Outcome Snapshot) (v : NodeEventKind (Mail Snapshot)) (unnamed : named (node_of x) o v ≡ []) where
  none_named : hear_all now x.store.state x.heard (named (node_of x) o v) ≡ x.heard
  unfolding hear_all
  none_named = ap (hear_all now x.store.state x.heard) unnamed

  unnamed_heard : heard_if (became_leader (node_of x) o) now x.store.state.sessions x.heard ≡ heard_after (node_of x) now v o None x.store.state
  unnamed_heard = ap (λ m. if became_leader (node_of x) o then all_heard now x.store.state.sessions else m) (sym none_named)

pub steps_given : (now : ℕ) (e : RaftEvent Snapshot) (b : Bool) (lead : Option ℕ) (p x y : Parts) (r : Reaction) (g : Outcome) → p ≡ x → Holds p → IsForeseen x.member e b lead → IsReaction e lead x r y → g ≡ given_by r (standing_of (node_of y))
    → (v : NodeEventKind (Mail Snapshot)) → y.heard ≡ heard_after (node_of x) now v (reaction x.member e) None x.store.state → ((room : Option ℕ) → cut_of room (node_of x) v ≡ None)
    → (ch : Choices) × Steps (raft_step ch (node_of x) now v (reaction x.member e)) x y g
steps_given now e b lead p x y r g is h f d given v heard uncut =
    let z = by_choices e b lead x y r (subst Holds is h) f d now v heard uncut in
    (z.0, subst (Steps (raft_step z.0 (node_of x) now v (reaction x.member e)) x y) (sym given) z.1)

pub timeout_given : (now : ℕ) (b : Bool) (lead : Option ℕ) (p x y : Parts) (r : Reaction) (g : Outcome) → p ≡ x → Holds p → IsForeseen p.member asked.Timeout b lead → IsReaction asked.Timeout lead x r y
    → y.heard ≡ heard_if (becomes_leader x.member asked.Timeout) now x.store.state.sessions x.heard → g ≡ given_by r (standing_of (node_of y))
    → (ch : Choices) × Steps (raft_step ch (node_of x) now kind.Timeout (reaction x.member asked.Timeout)) x y g
timeout_given now b lead p x y r g is h f d heard given =
    steps_given now asked.Timeout b lead p x y r g is h (subst (λ (z : Parts). IsForeseen z.member asked.Timeout b lead) is f) d given kind.Timeout (heard ∙ unnamed_heard now x (reaction x.member asked.Timeout) kind.Timeout refl) (λ room. refl)

-- ---- messages that name no sessions

pub unnamed : (x : Node) (o : raft.Outcome Snapshot) (m : Mail Snapshot) → NamesNone m → named x o (kind.Deliver m) ≡ []
unnamed x o (mail.VoteReq term from last last_term) h = refl
unnamed x o (mail.VoteRep term from granted) h = refl
unnamed x o (mail.Append m) h = absurd h
unnamed x o (mail.AppendRep term from ok last heard) h = absurd h
unnamed x o (mail.Install term from index index_term image) h = absurd h
unnamed x o (mail.InstallRep term from index) h = refl
unnamed x o (mail.Forward term from body) h = refl

pub uncut : (x : Node) (m : Mail Snapshot) → IsUsual m → (room : Option ℕ) → cut_of room x (kind.Deliver m) ≡ None
uncut x (mail.VoteReq term from last last_term) h room = refl
uncut x (mail.VoteRep term from granted) h room = refl
uncut x (mail.Append m) h room = absurd h
uncut x (mail.AppendRep term from ok last heard) h room = refl
uncut x (mail.Install term from index index_term image) h room = absurd h
uncut x (mail.InstallRep term from index) h room = refl
uncut x (mail.Forward term from body) h room = refl

pub usual : (m : Mail Snapshot) → NamesNone m → IsUsual m
usual (mail.VoteReq term from last last_term) h = h
usual (mail.VoteRep term from granted) h = h
usual (mail.Append m) h = h
usual (mail.AppendRep term from ok last heard) h = absurd h
usual (mail.Install term from index index_term image) h = h
usual (mail.InstallRep term from index) h = h
usual (mail.Forward term from body) h = h

pub mail_given : (now : ℕ) (m : Mail Snapshot) (p x y : Parts) (r : Reaction) (g : Outcome) → p ≡ x → Holds p → IsDelivered now m x r y → g ≡ given_by r (standing_of (node_of y)) → NamesNone m
    → (ch : Choices) × Steps (raft_step ch (node_of x) now (kind.Deliver m) (reaction x.member (asked.Deliver m))) x y g
mail_given now m p x y r g is h d given none =
    let o : raft.Outcome Snapshot = reaction x.member (asked.Deliver m) in
    steps_given now (asked.Deliver m) d.may_rise d.lead p x y r g is h d.foreseen d.reaction given (kind.Deliver m) (d.heard ∙ unnamed_heard now x o (kind.Deliver m) (unnamed (node_of x) o m none)) (uncut (node_of x) m (usual m none))
