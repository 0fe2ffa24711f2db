-- The rules of Raft (Ongaro's thesis, chapter 3), but for those on appends and images.
use Rattle.std.specs.Prelude.{ℕ, suc, ◌+◌, ◌-◌, max, min, Bool, true, false, cond, not, ◌&&◌, ◌||◌, nat_eq, nat_lt, nat_le, List, [], ◌∷◌, ◌++◌, length, take, map}
use Rattle.kp_model.specs.LogEntry.{LogEntry}
use Rattle.kp_model.specs.declared.entry.Body.{Body}
use Rattle.kp_model.specs.declared.entry.Body.TheVariants as body
use Rattle.kp_model.specs.declared.read.Role.{Role}
use Rattle.kp_model.specs.declared.read.Role.TheVariants.{Follower, Candidate, Leader}
use Rattle.kp_entry.specs.declared.record.Record.{Record}
use Rattle.kp_entry.specs.declared.record.Record.TheVariants as record_
use Rattle.kp_entry.specs.Heads.{appended}
use Rattle.kp_entry.specs.Log.{Log, last_index, term_of, with_entries}
use Rattle.kp_raft.specs.declared.mail.Mail.{Mail}
use Rattle.kp_raft.specs.declared.mail.Mail.TheVariants as mail
use Rattle.kp_model.specs.Majority.{is_majority}
use Rattle.kp_raft.specs.Numbers.{MAX, set_at, each, for_peers, greatest}
use Rattle.kp_entry.specs.Held.{Held}
use Rattle.kp_raft.specs.Parts.{Running, Outcome, is_leader, is_candidate, nothing, to, vote_records, following, vote_at, running_at}

-- ---- committing (section 3.6.2)

-- member p has the leader's log up to i
abbrev pub has_up_to : ℕ → (ℕ → ℕ) → ℕ → ℕ → Bool
has_up_to me matches i p = nat_eq p me || nat_le i (matches p)

-- an entry of the own term that a majority has
abbrev pub may_commit : ℕ → ℕ → ℕ → Log → (ℕ → ℕ) → ℕ → Bool
may_commit n me term log matches i = nat_eq (term_of log i) term && is_majority n (has_up_to me matches i)

-- rule 8: the commit index rises to the last such entry
abbrev pub commit_of : ℕ → ℕ → ℕ → Log → (ℕ → ℕ) → ℕ → ℕ
commit_of n me term log matches old = greatest (last_index log) (may_commit n me term log matches) old

-- with the commit index that rule 8 gives
abbrev pub committed : ℕ → ℕ → ℕ → Log → Running → Running
committed n me term log v = record { role = v.role; leader = v.leader; commit = commit_of n me term log v.matches v.commit; votes = v.votes; matches = v.matches; nexts = v.nexts }

-- ---- elections (sections 3.4 and 3.6.1)

abbrev pub noop : ℕ → LogEntry
noop term = record { term = term; time = 0; body = body.Noop }

-- rule 4: leader of its term, with a log that ends at last
abbrev pub leading : ℕ → ℕ → Running → Running
leading me last v = record { role = Leader; leader = me; commit = v.commit; votes = v.votes; matches = λ p. 0; nexts = each (last + 1) }

-- a member becomes leader of its term behind these records, and appends a no-op
abbrev pub leads : {I : Type 0} → ℕ → ℕ → ℕ → Log → Running → List Record → Outcome I
leads n me term log v rs = record {
  records = rs ++ appended (noop term ∷ []);
  running = committed n me term (with_entries log (noop term ∷ [])) (leading me (last_index log) v);
  mail = [];
}

-- its own vote alone
abbrev pub own_vote : ℕ → ℕ → Bool
own_vote me = set_at (λ p. false) me true

-- a member stands for election where its term and its log leave room for it (rules 2 and 11)
abbrev pub may_stand : Held → Running → Bool
may_stand h v = not (is_leader v.role) && (nat_lt h.term MAX && nat_lt (last_index h.log) (MAX - 1))

abbrev pub candidate : ℕ → Running → Running
candidate me v = record { role = Candidate; leader = 0; commit = v.commit; votes = own_vote me; matches = v.matches; nexts = v.nexts }

abbrev pub vote_request : {I : Type 0} → ℕ → Held → ℕ → List (ℕ × Mail I)
vote_request me h p = to p (mail.VoteReq (h.term + 1) me (last_index h.log) (term_of h.log (last_index h.log)))

-- rule 2
abbrev pub on_timeout : {I : Type 0} → ℕ → ℕ → Held → Running → Outcome I
on_timeout n me h v = cond (may_stand h v)
    (cond (is_majority n (own_vote me))
    (leads n me (h.term + 1) h.log (candidate me v) (vote_records h (h.term + 1) me))
    (record { records = vote_records h (h.term + 1) me; running = candidate me v; mail = for_peers n me (vote_request me h) }))
    (nothing v)

-- the sender's log is at least as up-to-date as the own
abbrev pub is_up_to_date : ℕ → ℕ → Log → Bool
is_up_to_date last_term last log = nat_lt (term_of log (last_index log)) last_term || (nat_eq (term_of log (last_index log)) last_term && nat_le (last_index log) last)

abbrev pub grants : ℕ → ℕ → ℕ → ℕ → Log → Bool
grants vote from last_term last log = (nat_eq vote 0 || nat_eq vote from) && is_up_to_date last_term last log

-- rule 3
abbrev pub on_vote_req : {I : Type 0} → ℕ → Held → Running → ℕ → ℕ → ℕ → ℕ → Outcome I
on_vote_req me h v t from last last_term = cond (nat_lt t h.term) (record { records = []; running = v; mail = to from (mail.VoteRep h.term me false) })
    (cond (grants (vote_at h t) from last_term last h.log)
    (record { records = vote_records h t from; running = running_at h v t; mail = to from (mail.VoteRep t me true) })
    (record { records = vote_records h t (vote_at h t); running = running_at h v t; mail = to from (mail.VoteRep t me false) }))

-- a message of a greater term that has no other effect
abbrev pub on_term : {I : Type 0} → Held → Running → ℕ → Outcome I
on_term h v t = cond (nat_lt h.term t) (record { records = vote_records h t 0; running = following v 0; mail = [] }) (nothing v)

abbrev pub with_vote : Running → ℕ → Running
with_vote v from = record { role = v.role; leader = v.leader; commit = v.commit; votes = set_at v.votes from true; matches = v.matches; nexts = v.nexts }

-- a vote of its own term for a candidate
abbrev pub counts : ℕ → Held → Running → Bool → Bool
counts t h v granted = nat_eq t h.term && (is_candidate v.role && granted)

-- rule 4: a vote for a candidate
abbrev pub on_vote : {I : Type 0} → ℕ → ℕ → Held → Running → ℕ → Outcome I
on_vote n me h v from = cond (is_majority n (with_vote v from).votes) (leads n me h.term h.log (with_vote v from) []) (nothing (with_vote v from))

abbrev pub on_vote_rep : {I : Type 0} → ℕ → ℕ → Held → Running → ℕ → ℕ → Bool → Outcome I
on_vote_rep n me h v t from granted = cond (counts t h v granted) (on_vote n me h v from) (on_term h v t)

-- ---- what a leader hears (section 3.5)

-- rule 7: the peer has the leader's log up to last
abbrev pub matched_by : ℕ → ℕ → ℕ → Log → Running → ℕ → ℕ → Running
matched_by n me term log v from last = record {
  role = v.role;
  leader = v.leader;
  commit = commit_of n me term log (set_at v.matches from (max (v.matches from) last)) v.commit;
  votes = v.votes;
  matches = set_at v.matches from (max (v.matches from) last);
  nexts = set_at v.nexts from (max (v.matches from) last + 1);
}

abbrev pub with_match : ℕ → ℕ → Held → Running → ℕ → ℕ → Running
with_match n me h v from last = matched_by n me h.term h.log v from last

-- rule 7: the peer's log doesn't fit there
abbrev pub with_next : Running → ℕ → ℕ → Running
with_next v from last = record { role = v.role; leader = v.leader; commit = v.commit; votes = v.votes; matches = v.matches; nexts = set_at v.nexts from (max (v.matches from + 1) (min (v.nexts from - 1) (last + 1))) }

abbrev pub on_append_rep : {I : Type 0} → ℕ → ℕ → Held → Running → ℕ → ℕ → Bool → ℕ → Outcome I
on_append_rep n me h v t from ok last = cond (nat_eq t h.term && is_leader v.role)
    (cond ok (nothing (with_match n me h v from last)) (nothing (with_next v from last)))
    (on_term h v t)

-- ---- what a leader writes (rules 10 and 11)

abbrev pub entry_with : ℕ → ℕ → Body → LogEntry
entry_with term time b = record { term = term; time = time; body = b }

-- the entries of these bodies that the log has room for
abbrev pub proposed : Held → ℕ → List Body → List LogEntry
proposed h time bodies = take (MAX - last_index h.log) (map (entry_with h.term time) bodies)

-- a leader whose log ends at last; one whose log is full leads no more
abbrev pub still_leading : ℕ → Running → Running
still_leading last v = cond (nat_lt last MAX) v (following v 0)

abbrev pub wrote : ℕ → ℕ → Held → Running → List LogEntry → Running
wrote n me h v es = committed n me h.term (with_entries h.log es) (still_leading (last_index h.log + length es) v)

abbrev pub on_propose : {I : Type 0} → ℕ → ℕ → Held → Running → ℕ → List Body → Outcome I
on_propose n me h v time bodies = cond (is_leader v.role)
    (record { records = appended (proposed h time bodies); running = wrote n me h v (proposed h time bodies); mail = [] })
    (nothing v)
