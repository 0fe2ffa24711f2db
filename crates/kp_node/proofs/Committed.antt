-- A node that applied its next entry made the step.
use Rattle.std.proofs.Common.{◌≡◌, ℕ, suc, zero, ◌+◌, ◌-◌, ◌≤◌, ◌<◌, ◌^◌, Bool, true, false, ◌&&◌, not, List, [], ◌∷◌, ◌++◌, length, drop, Option, Some, None, is_some, refl, ap, sym, subst, ◌∙◌, arith}
use Rattle.std.proofs.lemmas.Bool.Decides.{nat_tests}
use Rattle.std.specs.Prelude.{map, nat_lt, if◌then◌else◌, slice_get}
use Rattle.std.specs.Ordering.{nat_cmp}
use Rattle.std.specs.FinMap as map
use Rattle.std.specs.FinMap.{FinMap}
use Rattle.kp_model.specs.declared.entry.Body.{Body}
use Rattle.kp_model.specs.declared.reply.Reply.{Reply}
use Rattle.kp_model.specs.declared.session.Session.{Session}
use Rattle.kp_model.specs.LogEntry.{LogEntry}
use Rattle.kp_model.specs.Limits.{last_number}
use Rattle.kp_model.specs.State.{State}
use Rattle.kp_model.specs.Step.{Outcome, apply}
use Rattle.kp_model.specs.Store.{Store, after, last as last_of}
use Rattle.kp_model.specs.Taken.{is_stale}
use Rattle.kp_model.proofs.Applied.{applied-apply}
use Rattle.kp_entry.specs.Log.{behind, last_index}
use Rattle.kp_entry.specs.Held.{replay}
use Rattle.kp_raft.specs.declared.event.RaftOut.{RaftOut}
use Rattle.kp_raft.specs.Members.{Member}
use Rattle.kp_raft.specs.Parts as raft
use Rattle.kp_raft.specs.Parts.{is_leader}
use Rattle.kp_raft.specs.Steps.{added}
use Rattle.kp_event.specs.declared.event.NodeEventKind.TheVariants as kind
use Rattle.kp_event.specs.declared.said.Said.TheVariants as says
use Rattle.kp_snapshot.specs.Snapshots.{Snapshot}
use Rattle.kp_expiry.specs.declared.heard.Heard.{Heard}
use Rattle.kp_seats.specs.Seating.{Seating}
use Rattle.kp_watch.specs.declared.watch.Watch.{Watch}
use Rattle.kp_conn.specs.declared.phase.Phase.{Phase}
use Rattle.kp_conn.specs.declared.phase.Phase.TheVariants as phase
use Rattle.kp_conn.specs.Connection.{opened}
use Rattle.kp_conn.specs.Fed.{fed}
use Rattle.kp_step.specs.declared.seat.Seat.{Seat}
use Rattle.kp_step.specs.Choices.{Choices, Luck}
use Rattle.kp_step.specs.Node.{Node, Seats, unapplied, last, latest}
use Rattle.kp_step.specs.Handing as step
use Rattle.kp_step.specs.Handing.{ground, desk, greeting, greeted_as, served}
use Rattle.kp_step.specs.Applying.{upcoming}
use Rattle.kp_step.specs.Asking.{Words, asked, installed, reacted, propose_if, commit_input}
use Rattle.kp_step.specs.Tables.{Table}
use Rattle.kp_step.specs.Committing.{Greeting, greeted, greeted_by, greeted_at, greeted_in as greeted_by_phase, informed, committed, settled_behind, newcomer, session_of, session_at, number_in}
use Rattle.kp_step.specs.Step.{Stepped, step, turned, together, commit_turn, standing_of, swept, newly_ready, is_ready, keeps_watches, count_lost, filled, forwarded}
use Rattle.kp_step.proofs.Resting.{AllQuiet, committed_quiet}
use Rattle.kp_node.specs.declared.applying.Applied.{Applied}
use Rattle.kp_node.specs.declared.joining.Ground.{Ground}
use Rattle.kp_node.specs.declared.outcome.Outcome.{Outcome as Given}
use Rattle.kp_node.specs.Applied.{told_in, made_of, store_behind, IsApplied}
use Rattle.kp_node.specs.Commits.{commit_with, commit_step, ground_of, IsCommitted, given_applied}
use Rattle.kp_node.specs.Holding.{Holds, AreKept}
use Rattle.kp_node.specs.Joining.{ground_in, desk_of}
use Rattle.kp_node.specs.Parts.{Parts, parts, node_of}
use Rattle.kp_node.specs.Proposing.{Does, proposed_to}
use Rattle.kp_node.specs.Steps.{images, Steps, quietly}
use Rattle.kp_node.proofs.Applies.{first_is}
use Rattle.kp_node.proofs.Asked.{same_last, asked_so, plain, no_image, IsPlain, unapplied_stays, from_stays, to_stays}
use Rattle.kp_node.proofs.Lasting.{served_none}
use Rattle.kp_node.proofs.Maps.{no, filter_none, kept_all}
use Rattle.kp_node.proofs.Reacted.{swept_kept, any}

-- ---- who doesn't lead proposes nothing

module _ (ch : Choices) (g : step.Ground) (d : step.Desk) (t : Table) (id : Option ℕ) (follows : g.leads ≡ false) where
  abbrev SameBodies : Greeting → Type 0
  SameBodies x = x.desk.bodies ≡ d.bodies

  as_none : (luck : Luck) (k : ℕ) (x : Seat) (ro : Bool) (n : ℕ) (s : Option Session) → (greeted_as g luck k t.watches d x.connection ro n s).desk.bodies ≡ d.bodies
  as_none luck k x ro n None = refl
  as_none luck k x ro n (Some s) = let c = opened (greeting ro n s) s.epoch x.connection in served_none g luck k t.watches (fed c []).0 d (fed c []).1 follows

  phase_none : (k : ℕ) (x : Seat) (p : Phase) → SameBodies (greeted_by_phase ch g d t id k x p)
  phase_none k x phase.Fresh = refl
  phase_none k x (phase.Connecting ro) = as_none (ch.luck k) k x ro (number_in id) (session_at g.state id)
  phase_none k x (phase.Live s e n) = refl
  phase_none k x (phase.Closing lost) = refl

  at_none : (k : ℕ) (o : Option Seat) → SameBodies (greeted_at ch g d t id k o)
  at_none k None = refl
  at_none k (Some x) = phase_none k x x.connection.phase

  by_none : (o : Option ℕ) → SameBodies (greeted_by ch g d t id o)
  by_none None = refl
  by_none (Some k) = at_none k (map.get t.seats k)

greeted_none : (ch : Choices) (g : step.Ground) (d : step.Desk) (t : Table) (me boot : ℕ) (b : Body) (r : Reply) → g.leads ≡ false → (greeted ch g d t me boot b r).desk.bodies ≡ d.bodies
unfolding greeted
greeted_none ch g d t me boot b r follows = by_none ch g d t (session_of b r) follows (if is_stale r then None else newcomer me boot b)

-- ---- the next entry

-- where there is one, it is committed and the first that isn't applied
upcoming_by : (b : Bool) (o : Option LogEntry) (e : LogEntry) → (if b then o else None) ≡ Some e → (b ≡ true) × (o ≡ Some e)
upcoming_by true o e h = (refl, h)
upcoming_by false o e h = no true (sym (ap is_some h)) refl

is_there : (o : Option LogEntry) → is_some o ≡ true → (e : LogEntry) × (o ≡ Some e)
is_there None h = no false refl h
is_there (Some e) h = (e, refl)

drop_next : (n : ℕ) (xs : List LogEntry) (e : LogEntry) (es : List LogEntry) → drop n xs ≡ e ∷ es → drop (suc n) xs ≡ es
drop_next zero xs e es h = ap (drop 1) h
drop_next (suc n) [] e es h = no true (sym (ap (λ (l : List LogEntry). is_some (slice_get l 0)) h)) refl
drop_next (suc n) (x ∷ xs) e es h = drop_next n xs e es h

-- what a node knows of its next entry
pub record IsNext (p : Parts) (e : LogEntry) (es : List LogEntry) : Type 0 where
  pub upcoming : upcoming (node_of p) ≡ Some e
  pub committed : p.store.state.applied < p.member.vars.commit
  pub unapplied : p.store.unapplied ≡ e ∷ es

pub next_is : (p : Parts) → Holds p → is_some (upcoming (node_of p)) ≡ true → (e : LogEntry) × ((es : List LogEntry) × IsNext p e es)
next_is p h there =
    let u = is_there (upcoming (node_of p)) there in
    let b = upcoming_by (nat_lt p.store.state.applied p.member.vars.commit) (slice_get (unapplied (node_of p)) 0) u.0 u.1 in
    let f = first_is (unapplied (node_of p)) u.0 b.1 in
    (u.0, (f.0, record { upcoming = u.1; committed = let e = b.0 in grind (arith, nat_tests, e); unapplied = h.unapplied ∙ f.1 }))

-- ---- the parts of a node

module _ (p : Parts) (h : Holds p) (ends : p.member.vars.commit ≤ last_index p.member.held.log) (now : ℕ) (e : LogEntry) (es : List LogEntry) (n : IsNext p e es) where
  abbrev x : Node
  x = node_of p

  abbrev s : State
  s = p.store.state

  abbrev o : Outcome
  o = apply s e

  abbrev store : Store
  store = store_behind o.state es

  abbrev g : Ground
  g = ground_of p now

  -- the desk of the definition is that of the storage behind the entry
  last_same : last_of store ≡ last x
  last_same = let a = applied-apply s e in let l = same_last p h ends in let u = ap (λ (l : List LogEntry). length l) n.unapplied in omega (arith, a, l, u)

  latest_same : after o.state es ≡ latest x
  unfolding after
  latest_same = sym (ap (after s) (sym h.unapplied ∙ n.unapplied))

  desk_same : desk_of store [] [] ≡ desk x
  desk_same = λ i. record { latest = latest_same i; room = last_number - last_same i; bodies = []; forwards = [] }

  -- and what it makes is what is made of the parts
  made_same : (ch : Choices) → made_of ch g e es s p.seating.seats p.watches ≡ committed ch x now e
  unfolding committed informed
  made_same ch = ap (λ d. settled_behind ch o.state (greeted ch (ground now o.state x) d (told_in ch p.member.node p.boot p.seating.seats p.watches e.body o) p.member.node p.boot e.body o.reply)) desk_same

  -- the parts with the storage behind the entry
  abbrev between : Parts
  between = record p { store = store }

  log_next : es ≡ behind p.member.held.log o.state.applied
  log_next =
      let a = applied-apply s e in
      let f = h.from in
      let m : suc (s.applied - p.member.held.log.base) ≡ o.state.applied - p.member.held.log.base = omega (arith, a, f) in
      sym (drop_next (s.applied - p.member.held.log.base) p.member.held.log.entries e es (sym h.unapplied ∙ n.unapplied)) ∙ ap (λ k. drop k p.member.held.log.entries) m

  between_holds : Holds between
  between_holds = record {
    few = h.few;
    rest = h.rest;
    kept = h.kept;
    unapplied = log_next;
    from = let a = applied-apply s e in let f = h.from in omega (arith, a, f);
    to = let a = applied-apply s e in let c = n.committed in omega (arith, a, c);
    served = h.served;
    counted = h.counted;
  }

  module _ (a : Applied) (y : Parts) (d : IsCommitted now e es p a y) where
    abbrev ch : Choices
    ch = d.applied.choices

    abbrev made : Greeting
    made = made_of ch g e es s p.seating.seats p.watches

    abbrev bodies : List Body
    bodies = made.desk.bodies

    unled : is_leader p.member.vars.role ≡ false → bodies ≡ []
    unled f = greeted_none ch (ground_in g o.state) (desk_of store [] []) (told_in ch p.member.node p.boot p.seating.seats p.watches e.body o) p.member.node p.boot e.body o.reply f

    -- what Raft made of what was handed in
    abbrev did : raft.Outcome Snapshot
    did = proposed_to p.member now bodies

    abbrev out : RaftOut Snapshot
    out = record { added = added did.records; truncated = None; image = None; records = did.records; mail = did.mail }

    does : Does did p.member out y.member
    does = let r = d.applied.over.raft in record { records = refl; mail = refl; image = refl; added = refl; node = r.node; members = r.members; held = r.held; running = r.running }

    pub committed_holds : p.events < 2 ^ 62 → Holds y
    committed_holds few = record {
      few = subst (λ k. k ≤ 7) (sym d.applied.over.raft.members) h.few;
      rest = subst AllQuiet (sym (d.applied.seats ∙ ap (λ (z : Greeting). z.table.seats) (made_same ch))) (committed_quiet ch x now e);
      kept = subst (AreKept y.seating.seats) (sym d.applied.watches) (swept_kept y.seating.seats made.table.watches);
      unapplied = unapplied_stays between between_holds ends now bodies y.store made.desk d.applied.at y.member out does unled;
      from = from_stays between between_holds ends now bodies y.store made.desk d.applied.at y.member out does unled;
      to = to_stays between between_holds ends now bodies y.store made.desk d.applied.at y.member out does unled;
      served = d.applied.served;
      counted = let k = d.events in omega (arith, k, few);
    }

    -- ---- the step

    abbrev all : Greeting
    all = committed ch x now e

    same_made : made ≡ all
    same_made = made_same ch

    abbrev answered : raft.Outcome Snapshot
    answered = reacted x (propose_if now all.desk.bodies)

    did_so : did ≡ answered
    did_so = asked_so p now bodies ∙ ap (λ (z : Greeting). reacted x (propose_if now z.desk.bodies)) same_made

    quiet : IsPlain x answered
    quiet = plain x now all.desk.bodies

    abbrev step_is : Stepped Snapshot
    step_is = commit_with ch x now (Some e)

    node_is : node_of y ≡ step_is.node
    unfolding together
    node_is = λ i. record {
      me = d.applied.over.raft.node i;
      members = d.applied.over.raft.members i;
      boot = d.boot i;
      held = (d.applied.over.raft.held ∙ ap (λ (z : raft.Outcome Snapshot). replay p.member.held z.records) did_so) i;
      running = (d.applied.over.raft.running ∙ ap (λ (z : raft.Outcome Snapshot). z.running) did_so) i;
      state = ap (λ (z : Store). z.state) d.applied.at.store i;
      seats = (d.applied.seats ∙ ap (λ (z : Greeting). z.table.seats) same_made) i;
      next = d.applied.next i;
      watches = (d.applied.watches ∙ (λ j. swept ((d.applied.seats ∙ ap (λ (z : Greeting). z.table.seats) same_made) j) (same_made j).table.watches)) i;
      heard = d.applied.heard i;
      spoken = d.spoken i;
    }

    mail_is : a.handed.mail ≡ step_is.mail
    unfolding together
    mail_is = d.applied.over.mail ∙ ap (λ (z : Greeting). map (forwarded x) z.desk.forwards) same_made ∙ sym (ap (λ ms. map (filled x.spoken) ms ++ map (forwarded x) all.desk.forwards) quiet.mail)

    image_is : None ≡ step_is.image
    unfolding together
    image_is = no_image x answered quiet

    steps_so : Steps step_is p y (given_applied a (standing_of (node_of y)))
    unfolding together
    steps_so = record {
      is = record {
        node = node_is;
        said = ap (λ k. says.Done (Some k)) d.applied.index;
        records = d.applied.over.raft.records ∙ ap (λ (z : raft.Outcome Snapshot). z.records) did_so;
        image = image_is;
        mail = mail_is;
        cut = refl;
        lost = d.applied.lost ∙ ap (λ m. count_lost m - count_lost p.seating.seats) (d.applied.seats ∙ ap (λ (z : Greeting). z.table.seats) same_made);
        standing = ap standing_of node_is;
        ready = d.applied.ready ∙ ap (newly_ready p.seating.seats) (d.applied.seats ∙ ap (λ (z : Greeting). z.table.seats) same_made);
      };
      counted = d.events;
    }

    pub committed_steps : (ch : Choices) × Steps (commit_step ch (node_of p) now) p y (given_applied a (standing_of (node_of y)))
    committed_steps = (ch, subst (λ u. Steps (commit_with ch (node_of p) now u) p y (given_applied a (standing_of (node_of y)))) (sym n.upcoming) steps_so)

-- ---- no entry is next

but_not : (b : Bool) → (b && not b) ≡ false
but_not true = refl
but_not false = refl

none_new : (m : Seats) → newly_ready m m ≡ []
none_new m = filter_none _ _ (λ q. but_not (is_ready (map.get m q)))

none_lost : (n : ℕ) → 0 ≡ n - n
none_lost n = omega arith

is_none : (o : Option LogEntry) → is_some o ≡ false → o ≡ None
is_none None h = refl
is_none (Some e) h = no true h refl

-- the parts, with one event more
abbrev pub later : Parts → Parts
later p = record p { events = p.events + 1 }

idle_so : (p : Parts) → Holds p → (now : ℕ) (ch : Choices) → Steps (commit_with ch (node_of p) now None) p (later p) (quietly (says.Done None) (standing_of (node_of p)))
unfolding together reacted
idle_so p h now luck = record {
  is = record {
    node = ap (λ ws. record (node_of p) { watches = ws }) (sym (kept_all (λ (w : Watch). w.conn) keeps_watches p.seating.seats p.watches h.kept));
    said = refl;
    records = refl;
    image = refl;
    mail = refl;
    cut = refl;
    lost = none_lost (count_lost p.seating.seats);
    standing = refl;
    ready = sym (none_new p.seating.seats);
  };
  counted = refl;
}

-- ---- as the code has it

module _ (p z : Parts) (same : p ≡ z) (h : Holds p) (now : ℕ) where
  pub idle_given : is_some (upcoming (node_of z)) ≡ false → (o : Given) → o ≡ quietly (says.Done None) (standing_of (node_of p)) → (ch : Choices) × Steps (commit_step ch (node_of z) now) z (later p) o
  idle_given none o is = (
    any,
    subst (λ (w : Parts). Steps (commit_step any (node_of w) now) w (later p) o) same
        (subst (λ u. Steps (commit_with any (node_of p) now u) p (later p) o) (sym (is_none (upcoming (node_of p)) (ap (λ (w : Parts). is_some (upcoming (node_of w))) same ∙ none)))
        (subst (Steps (commit_with any (node_of p) now None) p (later p)) (sym is) (idle_so p h now any))),
  )

  module _ (i : ℕ) (commit : i ≡ p.member.vars.commit) (within : i ≤ last_index p.member.held.log) (there : is_some (upcoming (node_of z)) ≡ true) where
    ends : p.member.vars.commit ≤ last_index p.member.held.log
    ends = subst (λ k. k ≤ last_index p.member.held.log) commit within

    pub apply_holds : z.events < 2 ^ 62 → (g : Ground) → g ≡ ground_of z now → (a : Applied) (m : Member) (s : Store) (u : Seating Seat) (ws : List Watch) (heard : FinMap nat_cmp Heard)
        → ((e : LogEntry) (es : List LogEntry) → p.store.unapplied ≡ e ∷ es → IsApplied g e es p.member p.store p.seating p.watches p.heard a m s u ws heard) → Holds (parts m s u ws heard p.spoken p.boot (p.events + 1))
    apply_holds few g is a m s u ws heard d =
        let n = next_is p h (ap (λ (w : Parts). is_some (upcoming (node_of w))) same ∙ there) in
        let ground_is : g ≡ ground_of p now = is ∙ ap (λ (w : Parts). ground_of w now) (sym same) in
        committed_holds p h ends now n.0 n.1.0 n.1.1 a (parts m s u ws heard p.spoken p.boot (p.events + 1)) (record {
          applied = subst (λ k. IsApplied k n.0 n.1.0 p.member p.store p.seating p.watches p.heard a m s u ws heard) ground_is (d n.0 n.1.0 n.1.1.unapplied);
          spoken = refl;
          boot = refl;
          events = refl;
        }) (subst (λ (w : Parts). w.events < 2 ^ 62) (sym same) few)

    pub commit_given : (a : Applied) (y : Parts) → ((e : LogEntry) (es : List LogEntry) → z.store.unapplied ≡ e ∷ es → IsCommitted now e es z a y) → (o : Given) → o ≡ given_applied a (standing_of (node_of y)) → (ch : Choices) × Steps (commit_step ch (node_of z) now) z y o
    commit_given a y d o is =
        let hz : Holds z = subst Holds same h in
        let n = next_is z hz there in
        let s = committed_steps z hz (subst (λ (w : Parts). w.member.vars.commit ≤ last_index w.member.held.log) same ends) now n.0 n.1.0 n.1.1 a y (d n.0 n.1.0 n.1.1.unapplied) in
        (s.0, subst (Steps (commit_step s.0 (node_of z) now) z y) (sym is) s.1)

-- ---- the step at this event

module _ (words : Words) (ch : Choices) (x : Node) (now : ℕ) where
  bodies_installed : (bs : List Body) → installed {I = Snapshot} x (propose_if now bs) ≡ None
  unfolding installed
  bodies_installed [] = refl
  bodies_installed (b ∷ bs) = refl

  none_installed : (e : Option LogEntry) → installed {I = Snapshot} x (commit_input ch x now e) ≡ None
  unfolding installed
  none_installed None = refl
  none_installed (Some e) = bodies_installed (committed ch x now e).desk.bodies

  pub at_commit_one : step words images ch x (record { now = now; kind = kind.CommitOne }) ≡ commit_step ch x now
  unfolding step asked turned
  at_commit_one = ap (λ image. together images ch x kind.CommitOne (reacted x (commit_input ch x now (upcoming x))) image (commit_turn ch x now (upcoming x))) (none_installed (upcoming x))
