-- A follower's answer to an append, by which the sessions that it names are heard, makes the step.
use Rattle.std.proofs.Common.{◌≡◌, ℕ, Bool, true, false, cond, not, ◌&&◌, nat_eq, nat_lt, List, [], None, refl, ap, sym, subst, ◌∙◌}
use Rattle.std.specs.Prelude.{◌==◌, if◌then◌else◌}
use Rattle.std.specs.Ordering.{nat_cmp}
use Rattle.std.specs.FinMap.{FinMap}
use Rattle.kp_model.specs.State.{State}
use Rattle.kp_entry.specs.Held.{replay}
use Rattle.kp_entry.specs.Log.{last_index}
use Rattle.kp_raft.specs.declared.event.RaftEvent.TheVariants as asked
use Rattle.kp_raft.specs.declared.mail.Mail.{Mail}
use Rattle.kp_raft.specs.Members.{Member, running_of}
use Rattle.kp_raft.specs.Parts.{Outcome, nothing, is_leader, vote_records, following}
use Rattle.kp_raft.specs.Rules.{with_match, with_next}
use Rattle.kp_raft.specs.Steps.{passes}
use Rattle.kp_event.specs.declared.event.NodeEventKind.TheVariants as kind
use Rattle.kp_expiry.specs.declared.heard.Heard.{Heard}
use Rattle.kp_snapshot.specs.Snapshots.{Snapshot}
use Rattle.kp_step.specs.Choices.{Choices}
use Rattle.kp_step.specs.Committing.{hear_all}
use Rattle.kp_step.specs.Step.{named, heard_after, all_heard, standing_of}
use Rattle.kp_node.specs.declared.named.Answer.{Answer}
use Rattle.kp_node.specs.declared.outcome.Outcome.{Outcome as Given}
use Rattle.kp_node.specs.declared.raft_events.Reaction.{Reaction}
use Rattle.kp_node.specs.Parts.{Parts, node_of}
use Rattle.kp_node.specs.Holding.{Holds}
use Rattle.kp_node.specs.Steps.{Steps}
use Rattle.kp_node.specs.Foreseen.{reaction, becomes_leader}
use Rattle.kp_node.specs.Named.{AreKnown, IsAdmitted}
use Rattle.kp_node.specs.Naming.{mail_of, bare, named_by, with_heard, IsAnswered}
use Rattle.kp_node.specs.Reactions.{IsDelivered, raft_step, heard_if, given_by}
use Rattle.kp_node.proofs.Known.{heard_alike}
use Rattle.kp_node.proofs.Reacted.{steps_given}

turned_round : (a b : Bool) → (a && b) ≡ false → false ≡ (b && a)
turned_round true true e = sym e
turned_round true false e = refl
turned_round false true e = refl
turned_round false false e = refl

but_not : (b : Bool) → (not b && b) ≡ false
but_not true = refl
but_not false = refl

and_false : (b : Bool) → (b && false) ≡ false
and_false true = refl
and_false false = refl

-- ---- what a member makes of an answer

module _ (m : Member) (a : Answer) where
  abbrev passed : Bool
  passed = passes m.members m.node (last_index m.held.log) (mail_of a)

  -- by cases: whether it passes, and is of the leader's term; whether the log is the leader's; whether the term rises
  abbrev outcome_by : Bool → Bool → Bool → Bool → Outcome Snapshot
  outcome_by p b k n = cond p
      (cond b (cond k (nothing (with_match m.members m.node m.held (running_of m) a.from a.last)) (nothing (with_next (running_of m) a.from a.last)))
      (cond n (record { records = vote_records m.held a.term 0; running = following (running_of m) 0; mail = [] }) (nothing (running_of m))))
      (nothing (running_of m))

  abbrev leads_behind : Outcome Snapshot → Bool
  leads_behind o = is_leader o.running.role && a.term == (replay m.held o.records).term

  -- it leads in that term behind it where it did before
  same_leads : (p b k n : Bool) → (nat_eq a.term m.held.term && is_leader m.vars.role) ≡ b → leads_behind (outcome_by p b k n) ≡ (is_leader m.vars.role && a.term == m.held.term)
  same_leads false b k n e = refl
  same_leads true true true n e = refl
  same_leads true true false n e = refl
  same_leads true false k true e = turned_round (nat_eq a.term m.held.term) (is_leader m.vars.role) e
  same_leads true false k false e = refl

  no_leader : (p b k n : Bool) → (not (is_leader m.vars.role) && is_leader (outcome_by p b k n).running.role) ≡ false
  no_leader false b k n = but_not (is_leader m.vars.role)
  no_leader true true true n = but_not (is_leader m.vars.role)
  no_leader true true false n = but_not (is_leader m.vars.role)
  no_leader true false k true = and_false (not (is_leader m.vars.role))
  no_leader true false k false = but_not (is_leader m.vars.role)

  pub stays : becomes_leader m (asked.Deliver (bare a)) ≡ false
  stays = no_leader passed (nat_eq a.term m.held.term && is_leader m.vars.role) a.ok (nat_lt m.held.term a.term)

-- the sessions that are heard are those of the definition
pub named_is : (x : Parts) (a : Answer) → named (node_of x) (reaction x.member (asked.Deliver (bare a))) (kind.Deliver (mail_of a)) ≡ named_by x.member a
named_is x a = ap (λ b. if passed x.member a && b then a.heard else [])
    (same_leads x.member a (passed x.member a) (nat_eq a.term x.member.held.term && is_leader x.member.vars.role) a.ok (nat_lt x.member.held.term a.term) refl)

-- ---- it is taken where the sessions are known

module _ (now : ℕ) (a : Answer) (ids : List ℕ) (x : Parts) (h : FinMap nat_cmp Heard) (list : List ℕ) (k : IsAdmitted x.store.state.sessions ids x.heard list h) (y : Parts) (r : Reaction) (d : IsDelivered now (bare a) (with_heard x h) r y) where
  state_stays : y.store.state ≡ x.store.state
  state_stays = ap (λ s. s.state) d.reaction.store

  heard_stays : y.heard ≡ h
  heard_stays = d.heard ∙ ap (λ b. heard_if b now x.store.state.sessions h) (stays x.member a)

  known_behind : AreKnown y.store.state.sessions ids y.heard
  known_behind = subst (AreKnown y.store.state.sessions ids) (sym heard_stays) (subst (λ (s : State). AreKnown s.sessions ids h) (sym state_stays) k.known)

  heard_behind : IsAnswered now a ids x r (with_heard y (hear_all now y.store.state y.heard ids))
  heard_behind = record {
    may_rise = d.may_rise;
    lead = d.lead;
    foreseen = d.foreseen;
    reaction = record {
      records = d.reaction.records;
      mail = d.reaction.mail;
      me = d.reaction.me;
      members = d.reaction.members;
      held = d.reaction.held;
      running = d.reaction.running;
      turns = d.reaction.turns;
      store = d.reaction.store;
      spoken = d.reaction.spoken;
      boot = d.reaction.boot;
      events = d.reaction.events;
    };
    heard = (λ i. hear_all now (state_stays i) (heard_stays i) ids) ∙ heard_alike now x.store.state ids x.heard list h k;
  }

-- ---- as the code has it

module _ (now : ℕ) (a : Answer) (ids : List ℕ) (x x1 : Parts) (list : List ℕ) (k : IsAdmitted x.store.state.sessions ids x.heard list x1.heard) (is : x1 ≡ with_heard x x1.heard) where
  module _ (m : Mail Snapshot) (bare_ : m ≡ bare a) (y : Parts) (r : Reaction) (d : IsDelivered now m x1 r y) where
    given : IsDelivered now (bare a) (with_heard x x1.heard) r y
    given = subst (λ (z : Parts). IsDelivered now (bare a) z r y) is (subst (λ q. IsDelivered now q x1 r y) bare_ d)

    pub known_so : AreKnown y.store.state.sessions ids y.heard
    known_so = known_behind now a ids x x1.heard list k y r given

    pub answered_so : (z : Parts) → z ≡ with_heard y (hear_all now y.store.state y.heard ids) → ids ≡ named_by x.member a → IsAnswered now a (named_by x.member a) x r z
    answered_so z set named_so = subst (λ l. IsAnswered now a l x r z) named_so (subst (IsAnswered now a ids x r) (sym set) (heard_behind now a ids x x1.heard list k y r given))

-- ---- the step

module _ (now : ℕ) (a : Answer) (x y : Parts) (r : Reaction) (d : IsAnswered now a (named_by x.member a) x r y) where
  heard_given : y.heard ≡ heard_after (node_of x) now (kind.Deliver (mail_of a)) (reaction x.member (asked.Deliver (bare a))) None x.store.state
  heard_given = d.heard ∙ ap (hear_all now x.store.state x.heard) (sym (named_is x a))
      ∙ sym (ap (λ b. if b then all_heard now x.store.state.sessions else hear_all now x.store.state x.heard (named (node_of x) (reaction x.member (asked.Deliver (bare a))) (kind.Deliver (mail_of a)))) (stays x.member a))

pub answer_given : (now : ℕ) (a : Answer) (p x y : Parts) (r : Reaction) (g : Given) → p ≡ x → Holds p → IsAnswered now a (named_by x.member a) x r y → g ≡ given_by r (standing_of (node_of y))
    → (ch : Choices) × Steps (raft_step ch (node_of x) now (kind.Deliver (mail_of a)) (reaction x.member (asked.Deliver (mail_of a)))) x y g
answer_given now a p x y r g is h d given =
    steps_given now (asked.Deliver (bare a)) d.may_rise d.lead p x y r g is h d.foreseen d.reaction given (kind.Deliver (mail_of a)) (heard_given now a x y r d) (λ room. refl)
