-- What Raft makes of bodies that were handed in, and that the node behind it is the step's.
use Rattle.std.proofs.Common.{◌≡◌, ℕ, suc, zero, ◌+◌, ◌-◌, ◌≤◌, ◌<◌, ◌^◌, Bool, true, false, cond, not, ◌&&◌, nat_lt, List, [], ◌∷◌, ◌++◌, length, Some, None, refl, ap, sym, subst, ◌∙◌, arith, append-nil, length-append}
use Rattle.std.proofs.lemmas.Bool.Decides.{nat_tests}
use Rattle.std.proofs.lemmas.List.{append_assoc, take_all, length-drop, drop-append-le}
use Rattle.std.specs.List.{list_any}
use Rattle.std.specs.Prelude.{map, if◌then◌else◌}
use Rattle.kp_model.specs.declared.entry.Body.{Body}
use Rattle.kp_model.specs.LogEntry.{LogEntry}
use Rattle.kp_model.specs.Limits.{last_number}
use Rattle.kp_model.specs.Store.{Store, after, last as last_of}
use Rattle.kp_entry.specs.Heads.{appended}
use Rattle.kp_entry.specs.Log.{Log, behind, last_index, with_entries}
use Rattle.kp_entry.specs.Held.{Held, replay}
use Rattle.kp_raft.specs.declared.event.RaftEvent.TheVariants as raft
use Rattle.kp_raft.specs.declared.event.RaftOut.{RaftOut}
use Rattle.kp_raft.specs.Numbers.{greatest}
use Rattle.kp_raft.specs.Rules.{entry_with, proposed, wrote}
use Rattle.kp_raft.specs.Members.{Member, running_of}
use Rattle.kp_raft.specs.Parts.{Running, Outcome, nothing, is_leader, following}
use Rattle.kp_raft.specs.Steps.{added, react}
use Rattle.kp_snapshot.specs.Snapshots.{Snapshot}
use Rattle.kp_step.specs.Handing.{Desk, proposed_all, desk}
use Rattle.kp_watch.specs.declared.watch.Watch.{Watch}
use Rattle.kp_step.specs.Node.{Node}
use Rattle.kp_step.specs.Step.{Stepped, Turn, keeps_watches, base_image, ends_in_base, filled, rose, became_leader, named, is_append_rep, answers_append, all_heard, risen, with_row_if, raft_table, raft_turn, turn, turned, standing_of, step, together}
use Rattle.kp_step.specs.Step.{behind as behind_table}
use Rattle.kp_step.specs.Choices.{Choices}
use Rattle.kp_step.specs.Committing.{hear_all}
use Rattle.kp_step.specs.Tables.{tabled}
use Rattle.kp_raft.specs.declared.mail.Mail.{Mail}
use Rattle.kp_raft.specs.declared.mail.Mail.TheVariants as mail
use Rattle.kp_event.specs.declared.event.NodeEventKind.{NodeEventKind}
use Rattle.kp_event.specs.declared.event.NodeEventKind.TheVariants as kind
use Rattle.kp_event.specs.declared.said.Said.TheVariants as says
use Rattle.kp_node.specs.declared.outcome.Outcome.{Outcome as Given}
use Rattle.kp_node.proofs.Reacting.{behind_steps}
use Rattle.kp_node.specs.Steps.{images, Reacts, Steps, given_behind}
use Rattle.kp_step.specs.Asking.{Words, Input, asks, reacted, installed, asked, propose_if, taken_by, expiries, own_image, may_propose}
use Rattle.kp_node.specs.Parts.{Parts, node_of}
use Rattle.kp_node.specs.Holding.{Holds}
use Rattle.kp_node.specs.Proposing.{AtDesk, Does, Proposes, entries_of, desk_of, taken_of, proposed_to, proposed_by, expire_step, forward_step}
use Rattle.kp_node.proofs.Maps.{no, kept_all}
use Rattle.kp_node.proofs.Handed.{map_length, takes_none}

-- ---- entries behind a log

pub replay_appended : (es : List LogEntry) → (k : Held) → replay k (appended es) ≡ record k { log = with_entries k.log es }
replay_appended [] k = ap (λ l. record k { log = record k.log { entries = l } }) (sym (append-nil k.log.entries))
replay_appended (e ∷ es) k = replay_appended es (record k { log = with_entries k.log (e ∷ []) }) ∙ ap (λ l. record k { log = record k.log { entries = l } }) (append_assoc k.log.entries (e ∷ []) es)

pub added_appended : (es : List LogEntry) → added (appended es) ≡ length es
added_appended [] = refl
added_appended (e ∷ es) = let n = added_appended es in omega (arith, n)

pub behind_entries : (l : Log) (i : ℕ) (es : List LogEntry) → i ≤ last_index l → behind (with_entries l es) i ≡ behind l i ++ es
behind_entries l i es to = drop-append-le (i - l.base) l.entries es (omega (arith, to))

-- the commit index never falls
above_by : (old i below : ℕ) (a b : Bool) → nat_lt old (suc i) ≡ a → old ≤ below → old ≤ cond (a && b) (suc i) below
above_by old i below true true e h = grind (arith, nat_tests, e)
above_by old i below true false e h = h
above_by old i below false b e h = h

pub not_below : (i : ℕ) (f : ℕ → Bool) (old : ℕ) → old ≤ greatest i f old
not_below zero f old = omega arith
not_below (suc i) f old = above_by old i (greatest i f old) (nat_lt old (suc i)) (f (suc i)) refl (not_below i f old)

-- ---- what a leader makes of bodies

-- these entries are appended, and nothing is sent
pub record Appends (m : Member) (es : List LogEntry) (o : Outcome Snapshot) : Type 0 where
  pub records : o.records ≡ appended es
  pub mail : o.mail ≡ []
  pub commit : m.vars.commit ≤ o.running.commit

module _ (m : Member) (now : ℕ) (bs : List Body) (room : last_index m.held.log + length bs ≤ last_number) where
  all_proposed : proposed m.held now bs ≡ entries_of m.held.term now bs
  all_proposed = take_all (4611686018427387904 - last_index m.held.log) (map (entry_with m.held.term now) bs) (let l = map_length (entry_with m.held.term now) bs in omega (arith, room, l))

  commit_stays : (v : Running) (b : Bool) → (cond b v (following v 0)).commit ≡ v.commit
  commit_stays v true = refl
  commit_stays v false = refl

  abbrev when_leading : Bool → Outcome Snapshot
  when_leading b = cond b (record { records = appended (proposed m.held now bs); running = wrote m.members m.node m.held (running_of m) (proposed m.held now bs); mail = [] }) (nothing (running_of m))

  appends_if : (b : Bool) → is_leader m.vars.role ≡ b → (b ≡ false → bs ≡ []) → Appends m (entries_of m.held.term now bs) (when_leading b)
  appends_if true e none = record {
    records = ap appended all_proposed;
    mail = refl;
    commit = subst (λ c. c ≤ (when_leading true).running.commit) (commit_stays (running_of m) (nat_lt (last_index m.held.log + length (proposed m.held now bs)) 4611686018427387904)) (not_below _ _ _);
  }
  appends_if false e none = record { records = ap (λ l. appended (entries_of m.held.term now l)) (sym (none refl)); mail = refl; commit = omega arith }

  pub appends_all : (is_leader m.vars.role ≡ false → bs ≡ []) → (cs : List Body) → cs ≡ bs → Appends m (entries_of m.held.term now cs) (proposed_to m now cs)
  appends_all none [] e = record { records = refl; mail = refl; commit = omega arith }
  appends_all none (c ∷ cs) e = subst (λ l. Appends m (entries_of m.held.term now l) (react m.members m.node m.held (running_of m) (raft.Propose now l))) (sym e) (appends_if (is_leader m.vars.role) refl none)

-- ---- the storage and the log stay of one piece

module _ (p : Parts) (h : Holds p) (ends : p.member.vars.commit ≤ last_index p.member.held.log) where
  within_log : p.store.state.applied ≤ last_index p.member.held.log
  within_log = let t = h.to in omega (arith, t, ends)

  pub same_last : last_of p.store ≡ last_index p.member.held.log
  same_last =
      let u = ap length h.unapplied ∙ length-drop (p.store.state.applied - p.member.held.log.base) p.member.held.log.entries in
      let f = h.from in
      let t = within_log in
      omega (arith, u, f, t)

  pub same_desk : desk_of p.store ≡ desk (node_of p)
  same_desk = λ i. record { latest = after p.store.state (h.unapplied i); room = last_number - same_last i; bodies = []; forwards = [] }

  pub same_taken : (now : ℕ) (bs : List Body) → taken_of p.member p.store now bs ≡ taken_by (node_of p) now bs
  same_taken now bs = ap (λ d. if is_leader p.member.vars.role then (proposed_all p.member.held.term now d bs).bodies else []) same_desk

  module _ (now : ℕ) (bs : List Body) (x : Store) (d : Desk) (at : AtDesk p.store p.member.held.term now x bs d) (m : Member) (out : RaftOut Snapshot) (does : Does (proposed_to p.member now bs) p.member out m) (none : is_leader p.member.vars.role ≡ false → bs ≡ []) where
    length_of : last_of x ≡ last_of p.store + length bs
    length_of =
        let s = ap (λ (y : Store). y.state.applied) at.store in
        let l = ap (λ (y : Store). length y.unapplied) at.store ∙ length-append p.store.unapplied (entries_of p.member.held.term now bs) in
        let n = map_length (entry_with p.member.held.term now) bs in
        omega (arith, s, l, n)

    room : last_index p.member.held.log + length bs ≤ last_number
    room = let l = length_of in let w = at.within in let s = same_last in omega (arith, l, w, s)

    pub appends : Appends p.member (entries_of p.member.held.term now bs) (proposed_to p.member now bs)
    appends = appends_all p.member now bs room none bs refl

    held_is : m.held ≡ record p.member.held { log = with_entries p.member.held.log (entries_of p.member.held.term now bs) }
    held_is = does.held ∙ ap (λ rs. replay p.member.held rs) appends.records ∙ replay_appended (entries_of p.member.held.term now bs) p.member.held

    pub unapplied_stays : x.unapplied ≡ behind m.held.log x.state.applied
    unapplied_stays = ap (λ (y : Store). y.unapplied) at.store ∙ ap (λ us. us ++ entries_of p.member.held.term now bs) h.unapplied
        ∙ sym (behind_entries p.member.held.log p.store.state.applied (entries_of p.member.held.term now bs) within_log)
        ∙ (λ i. behind (sym held_is i).log (sym at.store i).state.applied)

    pub from_stays : m.held.log.base ≤ x.state.applied
    from_stays = let f = h.from in let b = ap (λ (k : Held). k.log.base) held_is in let s = ap (λ (y : Store). y.state.applied) at.store in omega (arith, f, b, s)

    pub to_stays : x.state.applied ≤ m.vars.commit
    to_stays = let t = h.to in let c = appends.commit in let r = ap (λ (r : Running). r.commit) does.running in let s = ap (λ (y : Store). y.state.applied) at.store in omega (arith, t, c, r, s)

    pub count_is : out.added ≡ length bs
    count_is = does.added ∙ ap added appends.records ∙ added_appended (entries_of p.member.held.term now bs) ∙ map_length (entry_with p.member.held.term now) bs

-- ---- the node behind it

pub asked_so : (p : Parts) (now : ℕ) (bs : List Body) → proposed_to p.member now bs ≡ reacted (node_of p) (propose_if now bs)
unfolding reacted
asked_so p now [] = refl
asked_so p now (b ∷ bs) = refl

-- the parts with another member and another storage, and one event more
abbrev pub with_raft : Parts → Member → Store → Parts
with_raft p m x = record p { member = m; store = x; events = p.events + 1 }

module _ (p z : Parts) (e : p ≡ z) (h : Holds p) (ends : p.member.vars.commit ≤ last_index p.member.held.log) (now : ℕ) (bs : List Body) (out : RaftOut Snapshot) (m : Member) (x : Store) (s : Proposes p.member p.store now bs out m x) where
  abbrev taken : List Body
  taken = taken_of p.member p.store now bs

  is_taken : taken ≡ taken_by (node_of p) now bs
  is_taken = same_taken p h ends now bs

  as_asked : proposed_to p.member now taken ≡ proposed_by (node_of p) now bs
  as_asked = asked_so p now taken ∙ ap (λ l. reacted (node_of p) (propose_if now l)) is_taken

  done : Does (proposed_by (node_of p) now bs) p.member out m
  done = subst (λ o. Does o p.member out m) as_asked s.does

  pub proposed_holds : z.events < 2 ^ 62 → Holds (with_raft p m x)
  proposed_holds few = record {
    few = subst (λ n. n ≤ 7) (sym s.does.members) h.few;
    rest = h.rest;
    kept = h.kept;
    unapplied = unapplied_stays p h ends now taken x s.desk.0 s.desk.1 m out s.does (takes_none p.member p.store now bs);
    from = from_stays p h ends now taken x s.desk.0 s.desk.1 m out s.does (takes_none p.member p.store now bs);
    to = to_stays p h ends now taken x s.desk.0 s.desk.1 m out s.does (takes_none p.member p.store now bs);
    served = h.served;
    counted = let f = ap (λ (y : Parts). y.events) e in omega (arith, f, few);
  }

  so : Reacts (proposed_by (node_of p) now bs) None p out (with_raft p m x)
  so = record {
    records = done.records;
    mail = done.mail;
    image = done.image;
    node = λ i. record (node_of p) { me = done.node i; members = done.members i; held = done.held i; running = done.running i; state = (s.desk.1.store i).state };
    swept = kept_all (λ (w : Watch). w.conn) keeps_watches p.seating.seats p.watches h.kept;
    counted = refl;
  }

  pub proposed_so : Reacts (proposed_by (node_of z) now bs) None z out (with_raft p m x)
  proposed_so = subst (λ y. Reacts (proposed_by (node_of y) now bs) None y out (with_raft p m x)) e so

  pub proposed_count : out.added ≡ length (taken_by (node_of z) now bs)
  proposed_count = count_is p h ends now taken x s.desk.0 s.desk.1 m out s.does (takes_none p.member p.store now bs) ∙ ap length is_taken ∙ ap (λ y. length (taken_by (node_of y) now bs)) e

pub commit_ends : (r c l : ℕ) → r ≡ c → r ≤ l → c ≤ l
commit_ends r c l is to = omega (arith, is, to)

-- ---- nothing else of the node changes

-- whatever is proposed, entries are appended, nothing is sent, and nobody becomes leader
pub record IsPlain (x : Node) (o : Outcome Snapshot) : Type 0 where
  pub entries : List LogEntry
  pub records : o.records ≡ appended entries
  pub mail : o.mail ≡ []
  pub leads : is_leader o.running.role ≡ true → is_leader x.running.role ≡ true

module _ (x : Node) (now : ℕ) where
  leads_on : (v : Running) (b : Bool) → is_leader (cond b v (following v 0)).role ≡ true → is_leader v.role ≡ true
  leads_on v true e = e
  leads_on v false e = no false refl e

  plain_if : (bs : List Body) (b : Bool) → IsPlain x (cond b (record { records = appended (proposed x.held now bs); running = wrote x.members x.me x.held x.running (proposed x.held now bs); mail = [] }) (nothing x.running))
  plain_if bs true = record { entries = proposed x.held now bs; records = refl; mail = refl; leads = leads_on x.running (nat_lt (last_index x.held.log + length (proposed x.held now bs)) 4611686018427387904) }
  plain_if bs false = record { entries = []; records = refl; mail = refl; leads = λ l. l }

  pub plain : (bs : List Body) → IsPlain x (reacted x (propose_if now bs))
  unfolding reacted
  plain [] = record { entries = []; records = refl; mail = refl; leads = λ l. l }
  plain (b ∷ bs) = plain_if (b ∷ bs) (is_leader x.running.role)

ends_in_none : (es : List LogEntry) → ends_in_base (appended es) ≡ false
ends_in_none [] = refl
ends_in_none (e ∷ es) = ends_in_none es

module _ (x : Node) (o : Outcome Snapshot) (h : IsPlain x o) where
  pub no_image : None ≡ base_image images x o.records None
  no_image = sym (ap (λ rs. if ends_in_base rs then Some (own_image images x) else None) h.records ∙ ap (λ b. if b then Some (own_image images x) else None) (ends_in_none h.entries))

  pub no_names : (ids : List ℕ) → map (filled ids) o.mail ≡ o.mail
  no_names ids = ap (λ ms. map (filled ids) ms) h.mail ∙ sym h.mail

  same_term : (replay x.held o.records).term ≡ x.held.term
  same_term = ap (λ rs. (replay x.held rs).term) h.records ∙ ap (λ (k : Held). k.term) (replay_appended h.entries x.held)

  not_risen : rose x o ≡ false
  not_risen = let s = same_term in grind (arith, nat_tests, s)

  none_leads : (a b : Bool) → (a ≡ true → b ≡ true) → (not b && a) ≡ false
  none_leads a true f = refl
  none_leads true false f = no false refl (f refl)
  none_leads false false f = refl

  none_became : became_leader x o ≡ false
  none_became = none_leads (is_leader o.running.role) (is_leader x.running.role) h.leads

  none_answers : answers_append o ≡ false
  none_answers = ap (λ (ms : List (ℕ × Mail Snapshot)). list_any (λ (m : ℕ × Mail Snapshot). is_append_rep m.1) ms) h.mail

  module _ (ch : Choices) (now : ℕ) where
    abbrev turn_with : Bool → Bool → Bool → Turn
    turn_with risen_ became answers = record {
      node = behind_table (record x { heard = if became then all_heard now x.state.sessions else x.heard; spoken = if answers then [] else x.spoken }) (with_row_if risen_ (risen ch x.state.applied) (tabled x.seats x.watches));
      said = says.Raft;
      forwards = [];
      told = (with_row_if risen_ (risen ch x.state.applied) (tabled x.seats x.watches)).told;
      took = (with_row_if risen_ (risen ch x.state.applied) (tabled x.seats x.watches)).took;
    }

    as_turn : (v : NodeEventKind (Mail Snapshot)) → named x o v ≡ [] → raft_turn images ch x now v o None ≡ turn_with (rose x o) (became_leader x o) (answers_append o)
    unfolding raft_table hear_all
    as_turn v none = λ i. record {
      node = behind_table (record x { heard = if became_leader x o then all_heard now x.state.sessions else hear_all now x.state x.heard (none i); spoken = if answers_append o then [] else x.spoken }) (with_row_if (rose x o) (risen ch x.state.applied) (tabled x.seats x.watches));
      said = says.Raft;
      forwards = [];
      told = (with_row_if (rose x o) (risen ch x.state.applied) (tabled x.seats x.watches)).told;
      took = (with_row_if (rose x o) (risen ch x.state.applied) (tabled x.seats x.watches)).took;
    }

    pub same_turn : (v : NodeEventKind (Mail Snapshot)) → named x o v ≡ [] → raft_turn images ch x now v o None ≡ turn x says.Raft
    same_turn v none = as_turn v none ∙ (λ i. turn_with (not_risen i) (none_became i) (none_answers i))

-- ---- what is given

pub expire_so : (x y : Parts) (now : ℕ) (bs : List Body) (out : RaftOut Snapshot) (n : ℕ) (o : Given) → Reacts (proposed_by (node_of x) now bs) None x out y → n ≡ length (taken_by (node_of x) now bs)
    → taken_by (node_of x) now bs ≡ taken_by (node_of x) now (expiries (node_of x) now) → o ≡ given_behind (says.Expired n) out None (standing_of (node_of y)) → (ch : Choices) → Steps (expire_step ch (node_of x) now) x y o
expire_so x y now bs out n o r count same e ch =
    let p = plain (node_of x) now (taken_by (node_of x) now (expiries (node_of x) now)) in
    let s : Reacts (proposed_by (node_of x) now (expiries (node_of x) now)) None x out y = subst (λ l. Reacts (reacted (node_of x) (propose_if now l)) None x out y) same r in
    subst (Steps (expire_step ch (node_of x) now) x y) (sym (e ∙ ap (λ k. given_behind (says.Expired k) out None (standing_of (node_of y))) (count ∙ ap length same)))
    (behind_steps ch kind.ExpireDue (says.Expired (length (taken_by (node_of x) now (expiries (node_of x) now)))) (proposed_by (node_of x) now (expiries (node_of x) now)) None x y out s refl (no_image (node_of x) (proposed_by (node_of x) now (expiries (node_of x) now)) p) (no_names (node_of x) (proposed_by (node_of x) now (expiries (node_of x) now)) p x.spoken))

pub forward_so : (x y : Parts) (now term from : ℕ) (b : Body) (out : RaftOut Snapshot) (o : Given) → Reacts (proposed_by (node_of x) now (b ∷ [])) None x out y
    → o ≡ given_behind says.Raft out None (standing_of (node_of y)) → (ch : Choices) → Steps (forward_step ch (node_of x) now term from b) x y o
forward_so x y now term from b out o r e ch =
    let p = plain (node_of x) now (taken_by (node_of x) now (b ∷ [])) in
    let made : Outcome Snapshot = proposed_by (node_of x) now (b ∷ []) in
    subst (λ t. Steps (together images ch (node_of x) (kind.Deliver (mail.Forward term from b)) made None t) x y o) (sym (same_turn (node_of x) made p ch now (kind.Deliver (mail.Forward term from b)) refl))
    (subst (Steps (together images ch (node_of x) (kind.Deliver (mail.Forward term from b)) made None (turn (node_of x) says.Raft)) x y) (sym e)
    (behind_steps ch (kind.Deliver (mail.Forward term from b)) says.Raft made None x y out r refl (no_image (node_of x) made p) (no_names (node_of x) made p x.spoken)))

-- ---- the step at these events

module _ (words : Words) (ch : Choices) (x : Node) (now : ℕ) where
  pub none_installed : (bs : List Body) → installed {I = Snapshot} x (propose_if now bs) ≡ None
  unfolding installed
  none_installed [] = refl
  none_installed (b ∷ bs) = refl

  pub at_expire_due : step words images ch x (record { now = now; kind = kind.ExpireDue }) ≡ expire_step ch x now
  unfolding step asked turned
  at_expire_due = ap (λ image. together images ch x kind.ExpireDue (proposed_by x now (expiries x now)) image (turn x (says.Expired (length (taken_by x now (expiries x now)))))) (none_installed (taken_by x now (expiries x now)))

  forward_as : ℕ → ℕ → Body → Input Snapshot → Stepped Snapshot
  forward_as term from b input = together images ch x (kind.Deliver (mail.Forward term from b)) (reacted x input) (installed x input) (raft_turn images ch x now (kind.Deliver (mail.Forward term from b)) (reacted x input) (installed x input))

  pub at_forward : (term from : ℕ) (b : Body) → may_propose {I = Snapshot} x (mail.Forward term from b) term ≡ true → step words images ch x (record { now = now; kind = kind.Deliver (mail.Forward term from b) }) ≡ forward_step ch x now term from b
  unfolding step asked turned forward_as
  at_forward term from b may = ap (λ c. forward_as term from b (if c then propose_if now (taken_by x now (b ∷ [])) else asks (raft.Deliver (mail.Forward term from b)))) may
      ∙ ap (λ image. together images ch x (kind.Deliver (mail.Forward term from b)) (proposed_by x now (b ∷ [])) image (raft_turn images ch x now (kind.Deliver (mail.Forward term from b)) (proposed_by x now (b ∷ [])) image)) (none_installed (taken_by x now (b ∷ [])))
