-- By which events of Raft at most a no-op is appended, and what may come of them.
use Rattle.std.proofs.Common.{◌≡◌, ℕ, zero, suc, ◌+◌, ◌*◌, ◌≤◌, ◌<◌, ◌^◌, Bool, true, false, cond, not, ◌&&◌, ◌||◌, nat_eq, nat_lt, nat_le, List, [], ◌∷◌, ◌++◌, Option, Some, None, is_some, refl, ap, sym, subst, ◌∙◌, arith}
use Rattle.std.proofs.lemmas.Bool.Decides.{nat_tests}
use Rattle.std.specs.Prelude.{map, IfSome, if◌then◌else◌}
use Rattle.std.specs.List.{list_any}
use Rattle.kp_model.specs.declared.read.Role.{Role}
use Rattle.kp_model.specs.declared.read.Role.TheVariants.{Follower, Candidate, Leader}
use Rattle.kp_model.specs.Majority.{count, is_majority}
use Rattle.kp_entry.specs.declared.record.Record.{Record}
use Rattle.kp_entry.specs.declared.record.Record.TheVariants as record_
use Rattle.kp_entry.specs.Heads.{appended}
use Rattle.kp_entry.specs.Held.{replay}
use Rattle.kp_entry.specs.Log.{last_index, with_entries}
use Rattle.kp_raft.specs.declared.event.RaftEvent.{RaftEvent}
use Rattle.kp_raft.specs.declared.event.RaftEvent.TheVariants as asked
use Rattle.kp_raft.specs.declared.mail.Mail.{Mail}
use Rattle.kp_raft.specs.declared.mail.Mail.TheVariants as mail
use Rattle.kp_raft.specs.Numbers.{is_peer, for_peers, greatest}
use Rattle.kp_raft.specs.Members.{Member, running_of, MayTake}
use Rattle.kp_raft.specs.Parts.{Running, Outcome, nothing, is_leader, is_candidate, to, vote_records, vote_at, running_at, following}
use Rattle.kp_raft.specs.Rules.{noop, may_stand, own_vote, candidate, leading, committed, vote_request, with_vote, with_match, with_next, counts, grants, on_vote_req, on_vote_rep, on_append_rep, on_term}
use Rattle.kp_raft.specs.Steps.{passes, image_of}
use Rattle.kp_snapshot.specs.Snapshots.{Snapshot}
use Rattle.kp_step.specs.Step.{filled, is_append_rep, ends_in_base}
use Rattle.kp_node.specs.Foreseen.{reaction, noops, log_with, IsForeseen, IsUsual, term_in, may_elect, is_alone}
use Rattle.kp_node.proofs.Maps.{no}

-- ---- messages none of which answers an append

pub record ArePlain (ms : List (ℕ × Mail Snapshot)) : Type 0 where
  same : (ids : List ℕ) → map (filled ids) ms ≡ ms
  none : list_any (λ (m : ℕ × Mail Snapshot). is_append_rep m.1) ms ≡ false

plain_none : ArePlain []
plain_none = record { same = λ ids. refl; none = refl }

both_same : (f : ℕ × Mail Snapshot → ℕ × Mail Snapshot) (xs ys : List (ℕ × Mail Snapshot)) → map f xs ≡ xs → map f ys ≡ ys → map f (xs ++ ys) ≡ xs ++ ys
both_same f xs ys h k = appends xs ∙ (λ i. h i ++ k i)
  where
    appends : (xs : List (ℕ × Mail Snapshot)) → map f (xs ++ ys) ≡ map f xs ++ map f ys
    appends [] = refl
    appends (x ∷ xs) = ap (λ zs. f x ∷ zs) (appends xs)

any_none : (f : ℕ × Mail Snapshot → Bool) (xs ys : List (ℕ × Mail Snapshot)) → list_any f xs ≡ false → list_any f ys ≡ false → list_any f (xs ++ ys) ≡ false
any_none f [] ys h k = k
any_none f (x ∷ xs) ys h k = by (f x) h (any_none f xs ys)
  where
    by : (b : Bool) → (b || list_any f xs) ≡ false → (list_any f xs ≡ false → list_any f ys ≡ false → list_any f (xs ++ ys) ≡ false) → (b || list_any f (xs ++ ys)) ≡ false
    by true h r = h
    by false h r = r h k

plain_both : (xs ys : List (ℕ × Mail Snapshot)) → ArePlain xs → ArePlain ys → ArePlain (xs ++ ys)
plain_both xs ys p q = record {
  same = λ ids. both_same (filled ids) xs ys (p.same ids) (q.same ids);
  none = any_none (λ (m : ℕ × Mail Snapshot). is_append_rep m.1) xs ys p.none q.none;
}

plain_peers : (me : ℕ) (f : ℕ → List (ℕ × Mail Snapshot)) → ((p : ℕ) → ArePlain (f p)) → (n : ℕ) → ArePlain (for_peers n me f)
plain_peers me f h zero = plain_none
plain_peers me f h (suc n) = plain_both (for_peers n me f) (cond (nat_eq (suc n) me) [] (f (suc n))) (plain_peers me f h n) (by (nat_eq (suc n) me))
  where
    by : (b : Bool) → ArePlain (cond b [] (f (suc n)))
    by true = plain_none
    by false = h (suc n)

-- ---- what an outcome may be

pub record IsMild (m : Member) (o : Outcome Snapshot) (b : Bool) (lead : Option ℕ) : Type 0 where
  rise : nat_lt m.held.term (replay m.held o.records).term ≡ true → b ≡ true
  follows : lead ≡ None → (not (is_leader m.vars.role) && is_leader o.running.role) ≡ false
  log : (replay m.held o.records).log ≡ log_with (not (is_leader m.vars.role) && is_leader o.running.role) lead m.held.log
  commit : m.vars.commit ≤ o.running.commit
  based : ends_in_base o.records ≡ false
  plain : ArePlain o.mail

foreseen : (m : Member) (e : RaftEvent Snapshot) (b : Bool) (lead : Option ℕ) → MayTake m e → image_of m.members m.node m.held (running_of m) e ≡ None
    → IfSome lead (λ t. (t ≤ 2 ^ 62) × (last_index m.held.log < 2 ^ 62)) → IsMild m (reaction m e) b lead → IsForeseen m e b lead
foreseen m e b lead may image fits h = record {
  may = may;
  image = image;
  rise = h.rise;
  fits = fits;
  follows = h.follows;
  log = h.log;
  commit = h.commit;
  based = h.based;
  plain = h.plain.same;
  silent = h.plain.none;
}

-- a vote is recorded, or none is
abbrev votes : Bool → ℕ → ℕ → List Record
votes q t w = cond q [] (record_.Vote t w ∷ [])

not_below : {A : Type 0} (t : ℕ) → nat_lt t t ≡ true → A
not_below t h = absurd (grind (arith, nat_tests, h))

module _ (m : Member) (b : Bool) (lead : Option ℕ) where
  abbrev leads_now : Running → Bool
  leads_now v = not (is_leader m.vars.role) && is_leader v.role

  abbrev outcome : List Record → Running → List (ℕ × Mail Snapshot) → Outcome Snapshot
  outcome rs v ms = record { records = rs; running = v; mail = ms }

  -- it leads no more than before
  voted : (q : Bool) (t w : ℕ) (v : Running) (ms : List (ℕ × Mail Snapshot)) → (nat_lt m.held.term t ≡ true → b ≡ true) → leads_now v ≡ false → m.vars.commit ≤ v.commit → ArePlain ms → IsMild m (outcome (votes q t w) v ms) b lead
  voted true t w v ms r l c p = record { rise = λ h. not_below m.held.term h; follows = λ e. l; log = ap (λ z. log_with z lead m.held.log) (sym l); commit = c; based = refl; plain = p }
  voted false t w v ms r l c p = record { rise = r; follows = λ e. l; log = ap (λ z. log_with z lead m.held.log) (sym l); commit = c; based = refl; plain = p }

  silent : (v : Running) (ms : List (ℕ × Mail Snapshot)) → leads_now v ≡ false → m.vars.commit ≤ v.commit → ArePlain ms → IsMild m (outcome [] v ms) b lead
  silent v ms l c p = record { rise = λ h. not_below m.held.term h; follows = λ e. l; log = ap (λ z. log_with z lead m.held.log) (sym l); commit = c; based = refl; plain = p }

  there : (t : ℕ) → lead ≡ Some t → lead ≡ None → {A : Type 0} → A
  there t e f = no false refl (sym (ap is_some f) ∙ ap is_some e)

  -- it leads, and appends its no-op
  led : (q : Bool) (t w u : ℕ) (v : Running) → (nat_lt m.held.term t ≡ true → b ≡ true) → lead ≡ Some u → leads_now v ≡ true → m.vars.commit ≤ v.commit → IsMild m (outcome (votes q t w ++ appended (noop u ∷ [])) v []) b lead
  led true t w u v r is l c = record {
    rise = λ h. not_below m.held.term h;
    follows = λ e. there u is e;
    log = (λ i. with_entries m.held.log (noops (sym is i))) ∙ ap (λ z. log_with z lead m.held.log) (sym l);
    commit = c;
    based = refl;
    plain = plain_none;
  }
  led false t w u v r is l c = record {
    rise = r;
    follows = λ e. there u is e;
    log = (λ i. with_entries m.held.log (noops (sym is i))) ∙ ap (λ z. log_with z lead m.held.log) (sym l);
    commit = c;
    based = refl;
    plain = plain_none;
  }

but_not : (b : Bool) → (not b && b) ≡ false
but_not true = refl
but_not false = refl

never : (b : Bool) → (not b && false) ≡ false
never true = refl
never false = refl

-- the commit index never falls
greatest_above : (i : ℕ) (f : ℕ → Bool) (old : ℕ) → old ≤ greatest i f old
greatest_above zero f old = omega arith
greatest_above (suc i) f old = by (nat_lt old (suc i)) (f (suc i)) refl (greatest_above i f old)
  where
    by : (a c : Bool) → nat_lt old (suc i) ≡ a → old ≤ greatest i f old → old ≤ cond (a && c) (suc i) (greatest i f old)
    by true true e h = grind (arith, nat_tests, e)
    by true false e h = h
    by false c e h = h

-- ---- an election

-- a vote is one of many
one_vote : (me n : ℕ) → count n (own_vote me) ≤ cond (nat_le me n) 1 0
one_vote me zero = omega arith
one_vote me (suc n) = by (nat_eq (suc n) me) (nat_le me n) (nat_le me (suc n)) refl refl refl (one_vote me n)
  where
    by : (a c d : Bool) → nat_eq (suc n) me ≡ a → nat_le me n ≡ c → nat_le me (suc n) ≡ d → count n (own_vote me) ≤ cond c 1 0 → cond (cond a true false) 1 0 + count n (own_vote me) ≤ cond d 1 0
    by true true d e f g h = absurd (grind (arith, nat_tests, e, f))
    by true false true e f g h = omega (arith, h)
    by true false false e f g h = absurd (grind (arith, nat_tests, e, g))
    by false true true e f g h = omega (arith, h)
    by false true false e f g h = absurd (grind (arith, nat_tests, f, g))
    by false false true e f g h = omega (arith, h)
    by false false false e f g h = omega (arith, h)

-- who is elected by the own vote has no peers
one_member : (n me : ℕ) → is_majority n (own_vote me) ≡ true → n ≡ 1
one_member n me h = by (nat_le me n) (one_vote me n)
  where
    by : (c : Bool) → count n (own_vote me) ≤ cond c 1 0 → n ≡ 1
    by true k = ones (count n (own_vote me)) refl k
      where
        ones : (z : ℕ) → count n (own_vote me) ≡ z → z ≤ 1 → n ≡ 1
        ones z e k = grind (arith, nat_tests, h, k, e)
    by false k = absurd (grind (arith, nat_tests, h, k))

own_vote_of : (me : ℕ) (a : Bool) → nat_eq 1 me ≡ a → nat_lt 1 (2 * (cond (cond a true false) 1 0 + 0)) ≡ true → me ≡ 1
own_vote_of me true e h = grind (arith, nat_tests, e)
own_vote_of me false e h = absurd (grind (arith, nat_tests, h))

le_same : (n : ℕ) → n ≤ n
le_same n = omega arith

was_not : (l c : Bool) → (not l && c) ≡ true → (not l && true) ≡ true
was_not true c h = no false refl h
was_not false c h = refl

candidate_leads_not : (r : Role) → is_candidate r ≡ true → (not (is_leader r) && true) ≡ true
candidate_leads_not Leader h = no false refl h
candidate_leads_not Candidate h = refl
candidate_leads_not Follower h = no false refl h

second_of : (a b c : Bool) → (a && (b && c)) ≡ true → b ≡ true
second_of true true c h = refl
second_of true false c h = no false refl h
second_of false b c h = no false refl h

module _ (m : Member) (b : Bool) (lead : Option ℕ) where
  abbrev vs : Running
  vs = running_of m

  abbrev leads : Bool
  leads = is_leader m.vars.role

  -- ---- it stands for election

  module _ (r : may_stand m.held vs ≡ true → b ≡ true) (f : may_stand m.held vs ≡ true → is_majority m.members (own_vote m.node) ≡ true → lead ≡ Some (m.held.term + 1)) where
    abbrev elected : Outcome Snapshot
    elected = record {
      records = vote_records m.held (m.held.term + 1) m.node ++ appended (noop (m.held.term + 1) ∷ []);
      running = committed m.members m.node (m.held.term + 1) (with_entries m.held.log (noop (m.held.term + 1) ∷ [])) (leading m.node (last_index m.held.log) (candidate m.node vs));
      mail = [];
    }

    abbrev standing : Outcome Snapshot
    standing = record { records = vote_records m.held (m.held.term + 1) m.node; running = candidate m.node vs; mail = for_peers m.members m.node (vote_request m.node m.held) }

    stands_by : (s j : Bool) → may_stand m.held vs ≡ s → is_majority m.members (own_vote m.node) ≡ j → IsMild m (cond s (cond j elected standing) (nothing vs)) b lead
    stands_by true true s j = led m b lead (nat_eq m.held.term (m.held.term + 1) && nat_eq m.held.vote m.node) (m.held.term + 1) m.node (m.held.term + 1) elected.running (λ _. r s) (f s j) (was_not leads _ s) (greatest_above _ _ m.vars.commit)
    stands_by true false s j = voted m b lead (nat_eq m.held.term (m.held.term + 1) && nat_eq m.held.vote m.node) (m.held.term + 1) m.node (candidate m.node vs) standing.mail (λ _. r s) (never leads) (le_same m.vars.commit)
        (plain_peers m.node (vote_request m.node m.held) (λ p. record { same = λ ids. refl; none = refl }) m.members)
    stands_by false j s k = silent m b lead vs [] (but_not leads) (le_same m.vars.commit) plain_none

    pub timeout_mild : IsMild m (reaction m asked.Timeout) b lead
    timeout_mild = stands_by (may_stand m.held vs) (is_majority m.members (own_vote m.node)) refl refl

  -- ---- messages

  module _ (t : ℕ) (r : nat_lt m.held.term t ≡ true → b ≡ true) where
    term_by : (c : Bool) → nat_lt m.held.term t ≡ c → IsMild m (cond c (record { records = vote_records m.held t 0; running = following vs 0; mail = [] }) (nothing vs)) b lead
    term_by true e = voted m b lead (nat_eq m.held.term t && nat_eq m.held.vote 0) t 0 (following vs 0) [] r (never leads) (le_same m.vars.commit) plain_none
    term_by false e = silent m b lead vs [] (but_not leads) (le_same m.vars.commit) plain_none

    term_mild : IsMild m (on_term m.held vs t) b lead
    term_mild = term_by (nat_lt m.held.term t) refl

    follows_not : (c : Bool) → (not leads && is_leader (cond c (following vs 0) vs).role) ≡ false
    follows_not true = never leads
    follows_not false = but_not leads

    commits_so : (c : Bool) → m.vars.commit ≤ (cond c (following vs 0) vs).commit
    commits_so true = le_same m.vars.commit
    commits_so false = le_same m.vars.commit

    module _ (from last last_term : ℕ) where
      request_by : (a g : Bool) → IsMild m (cond a (record { records = []; running = vs; mail = to from (mail.VoteRep m.held.term m.node false) })
          (cond g (record { records = vote_records m.held t from; running = running_at m.held vs t; mail = to from (mail.VoteRep t m.node true) })
          (record { records = vote_records m.held t (vote_at m.held t); running = running_at m.held vs t; mail = to from (mail.VoteRep t m.node false) }))) b lead
      request_by true g = silent m b lead vs _ (but_not leads) (le_same m.vars.commit) (record { same = λ ids. refl; none = refl })
      request_by false true = voted m b lead (nat_eq m.held.term t && nat_eq m.held.vote from) t from (running_at m.held vs t) _ r (follows_not (nat_lt m.held.term t)) (commits_so (nat_lt m.held.term t)) (record { same = λ ids. refl; none = refl })
      request_by false false = voted m b lead (nat_eq m.held.term t && nat_eq m.held.vote (vote_at m.held t)) t (vote_at m.held t) (running_at m.held vs t) _ r (follows_not (nat_lt m.held.term t)) (commits_so (nat_lt m.held.term t)) (record { same = λ ids. refl; none = refl })

      request_mild : IsMild m (on_vote_req m.node m.held vs t from last last_term) b lead
      request_mild = request_by (nat_lt t m.held.term) (grants (vote_at m.held t) from last_term last m.held.log)

    module _ (from : ℕ) (granted : Bool) (f : counts t m.held vs granted ≡ true → lead ≡ Some m.held.term) where
      abbrev winner : Running
      winner = committed m.members m.node m.held.term (with_entries m.held.log (noop m.held.term ∷ [])) (leading m.node (last_index m.held.log) (with_vote vs from))

      vote_by : (c j : Bool) → counts t m.held vs granted ≡ c → IsMild m (cond c (cond j (record { records = appended (noop m.held.term ∷ []); running = winner; mail = [] }) (nothing (with_vote vs from))) (on_term m.held vs t)) b lead
      vote_by true true e = led m b lead true 0 0 m.held.term winner (λ h. r (same_term h)) (f e) (candidate_leads_not m.vars.role (second_of (nat_eq t m.held.term) (is_candidate m.vars.role) granted e)) (greatest_above _ _ m.vars.commit)
        where
          same_term : nat_lt m.held.term 0 ≡ true → nat_lt m.held.term t ≡ true
          same_term h = absurd (grind (arith, nat_tests, h))
      vote_by true false e = silent m b lead (with_vote vs from) [] (but_not leads) (le_same m.vars.commit) plain_none
      vote_by false j e = term_mild

      vote_mild : IsMild m (on_vote_rep m.members m.node m.held vs t from granted) b lead
      vote_mild = vote_by (counts t m.held vs granted) (is_majority m.members (with_vote vs from).votes) refl

    module _ (from : ℕ) (ok : Bool) (last : ℕ) where
      reply_by : (c k : Bool) → IsMild m (cond c (cond k (nothing (with_match m.members m.node m.held vs from last)) (nothing (with_next vs from last))) (on_term m.held vs t)) b lead
      reply_by true true = silent m b lead (with_match m.members m.node m.held vs from last) [] (but_not leads) (greatest_above _ _ m.vars.commit) plain_none
      reply_by true false = silent m b lead (with_next vs from last) [] (but_not leads) (le_same m.vars.commit) plain_none
      reply_by false k = term_mild

      reply_mild : IsMild m (on_append_rep m.members m.node m.held vs t from ok last) b lead
      reply_mild = reply_by (nat_eq t m.held.term && is_leader vs.role) ok

  passed : (p : Bool) (o : Outcome Snapshot) → IsMild m o b lead → IsMild m (cond p o (nothing vs)) b lead
  passed true o h = h
  passed false o h = silent m b lead vs [] (but_not leads) (le_same m.vars.commit) plain_none

  module _ (q : Mail Snapshot) (r : nat_lt m.held.term (term_in q) ≡ true → b ≡ true) (f : may_elect m q ≡ true → lead ≡ Some m.held.term) where
    mail_by : (x : Mail Snapshot) → IsUsual x → (nat_lt m.held.term (term_in x) ≡ true → b ≡ true) → (may_elect m x ≡ true → lead ≡ Some m.held.term) → IsMild m (reaction m (asked.Deliver x)) b lead
    mail_by (mail.VoteReq t from last last_term) usual r f = passed (passes {I = Snapshot} m.members m.node (last_index m.held.log) (mail.VoteReq t from last last_term)) _ (request_mild t r from last last_term)
    mail_by (mail.VoteRep t from granted) usual r f = passed (passes {I = Snapshot} m.members m.node (last_index m.held.log) (mail.VoteRep t from granted)) _ (vote_mild t r from granted f)
    mail_by (mail.Append a) usual r f = absurd usual
    mail_by (mail.AppendRep t from ok last heard) usual r f = passed (passes {I = Snapshot} m.members m.node (last_index m.held.log) (mail.AppendRep t from ok last heard)) _ (reply_mild t r from ok last)
    mail_by (mail.Install t from index index_term image) usual r f = absurd usual
    mail_by (mail.InstallRep t from index) usual r f = passed (passes {I = Snapshot} m.members m.node (last_index m.held.log) (mail.InstallRep t from index)) _ (reply_mild t r from true index)
    mail_by (mail.Forward t from body) usual r f = passed (passes {I = Snapshot} m.members m.node (last_index m.held.log) (mail.Forward t from body)) _ (term_mild t r)

    mail_mild : IsUsual q → IsMild m (reaction m (asked.Deliver q)) b lead
    mail_mild usual = mail_by q usual r f

-- ---- as the code foresees it

either_none : (p : Bool) (a : Option Snapshot) → a ≡ None → cond p a None ≡ None
either_none true a h = h
either_none false a h = refl

pub no_image : (m : Member) (q : Mail Snapshot) → IsUsual q → image_of m.members m.node m.held (running_of m) (asked.Deliver q) ≡ None
no_image m (mail.VoteReq t from last last_term) h = either_none (passes {I = Snapshot} m.members m.node (last_index m.held.log) (mail.VoteReq t from last last_term)) None refl
no_image m (mail.VoteRep t from granted) h = either_none (passes {I = Snapshot} m.members m.node (last_index m.held.log) (mail.VoteRep t from granted)) None refl
no_image m (mail.Append a) h = absurd h
no_image m (mail.AppendRep t from ok last heard) h = either_none (passes {I = Snapshot} m.members m.node (last_index m.held.log) (mail.AppendRep t from ok last heard)) None refl
no_image m (mail.Install t from index index_term image) h = absurd h
no_image m (mail.InstallRep t from index) h = either_none (passes {I = Snapshot} m.members m.node (last_index m.held.log) (mail.InstallRep t from index)) None refl
no_image m (mail.Forward t from body) h = either_none (passes {I = Snapshot} m.members m.node (last_index m.held.log) (mail.Forward t from body)) None refl

may_take : (m : Member) (q : Mail Snapshot) → IsUsual q → MayTake m (asked.Deliver q)
may_take m (mail.VoteReq t from last last_term) h = h
may_take m (mail.VoteRep t from granted) h = h
may_take m (mail.Append a) h = absurd h
may_take m (mail.AppendRep t from ok last heard) h = h
may_take m (mail.Install t from index index_term image) h = absurd h
may_take m (mail.InstallRep t from index) h = h
may_take m (mail.Forward t from body) h = h

pub mail_foreseen : (m : Member) (q : Mail Snapshot) (b : Bool) (lead : Option ℕ) → IsUsual q → b ≡ nat_lt m.held.term (term_in q) → lead ≡ (if may_elect m q then Some m.held.term else None)
    → IfSome lead (λ t. (t ≤ 2 ^ 62) × (last_index m.held.log < 2 ^ 62)) → IsForeseen m (asked.Deliver q) b lead
mail_foreseen m q b lead usual rise elect fits = foreseen m (asked.Deliver q) b lead (may_take m q usual) (no_image m q usual) fits
    (mail_mild m b lead q (λ h. rise ∙ h) (λ h. elect ∙ ap (λ z. if z then Some m.held.term else None) h) usual)

peerless : (n me : ℕ) → n ≡ 1 → me ≡ 1 → (not (is_peer n me 1) && not (is_peer n me 2)) ≡ true
peerless n me e f = λ i. not (is_peer (e i) (f i) 1) && not (is_peer (e i) (f i) 2)

no_peers : (n me : ℕ) → is_majority n (own_vote me) ≡ true → (not (is_peer n me 1) && not (is_peer n me 2)) ≡ true
no_peers n me h =
    let e : n ≡ 1 = one_member n me h in
    peerless n me e (own_vote_of me (nat_eq 1 me) refl (subst (λ k. is_majority k (own_vote me) ≡ true) e h))

pub timeout_foreseen : (m : Member) (b : Bool) (lead : Option ℕ) → b ≡ may_stand m.held (running_of m) → lead ≡ (if b && is_alone m then Some (m.held.term + 1) else None)
    → IfSome lead (λ t. (t ≤ 2 ^ 62) × (last_index m.held.log < 2 ^ 62)) → IsForeseen m asked.Timeout b lead
timeout_foreseen m b lead rise elect fits = foreseen m asked.Timeout b lead tt refl fits
    (timeout_mild m b lead (λ h. rise ∙ h) (λ h j. elect ∙ (λ i. if (rise ∙ h) i && no_peers m.members m.node j i then Some (m.held.term + 1) else None)))
