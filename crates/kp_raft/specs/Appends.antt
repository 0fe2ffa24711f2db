-- The rules of Raft on appends (Ongaro's thesis, section 3.5) and on images (chapter 5), which look at the base.
use Rattle.std.specs.Prelude.{ℕ, suc, ◌+◌, ◌-◌, max, min, Bool, true, false, cond, not, ◌&&◌, ◌||◌, nat_eq, nat_lt, nat_le, List, [], ◌∷◌, ◌++◌, length, take, drop, slice_get, Option, Some, None}
use Rattle.kp_model.specs.LogEntry.{LogEntry}
use Rattle.kp_model.specs.declared.read.Role.TheVariants.{Follower}
use Rattle.kp_entry.specs.declared.record.Record.{Record}
use Rattle.kp_entry.specs.declared.record.Record.TheVariants as record_
use Rattle.kp_entry.specs.Log.{Log, last_index, has_index, term_of, behind, batch}
use Rattle.kp_raft.specs.declared.append.AppendMail.{AppendMail}
use Rattle.kp_raft.specs.declared.append.Weigh.TheVariants as weigh
use Rattle.kp_raft.specs.declared.append.Weighed.{Weighed}
use Rattle.kp_raft.specs.declared.mail.Mail.{Mail}
use Rattle.kp_raft.specs.declared.mail.Mail.TheVariants as mail
use Rattle.kp_model.specs.Majority.{count}
use Rattle.kp_raft.specs.Numbers.{for_peers, is_peer}
use Rattle.kp_entry.specs.Held.{Held}
use Rattle.kp_raft.specs.Parts.{Running, Outcome, is_leader, nothing, to, vote_records, changes, following, vote_at}

-- ---- rule 5: what a leader sends

-- peer p needs entries that the leader has no more
abbrev pub lags : ℕ → Held → Running → ℕ → Bool
lags me h v p = not (nat_eq p me) && nat_le (v.nexts p) h.log.base

abbrev pub append_for : ℕ → Held → Running → ℕ → AppendMail
append_for me h v p = record {
  term = h.term;
  from = me;
  prev = v.nexts p - 1;
  prev_term = term_of h.log (v.nexts p - 1);
  commit = v.commit;
  entries = batch 64 1048576 (behind h.log (v.nexts p - 1));
}

abbrev pub install_with : {I : Type 0} → ℕ → Held → ℕ → ℕ → Option I → List (ℕ × Mail I)
install_with me h p index None = []
install_with me h p index (Some image) = to p (mail.Install h.term me index (term_of h.log index) image)

-- the images are for the peers that lag, in their order
abbrev pub beat_for : {I : Type 0} → ℕ → Held → Running → ℕ → List I → ℕ → List (ℕ × Mail I)
beat_for me h v index images p = cond (lags me h v p)
    (install_with me h p index (slice_get images (count (p - 1) (lags me h v))))
    (to p (mail.Append (append_for me h v p)))

abbrev pub on_beat : {I : Type 0} → ℕ → ℕ → Held → Running → ℕ → List I → Outcome I
on_beat n me h v index images = record { records = []; running = v; mail = cond (is_leader v.role) (for_peers n me (beat_for me h v index images)) [] }

-- to how many peers a leader sends an image
abbrev pub lagging : ℕ → ℕ → Held → Running → ℕ
lagging n me h v = cond (is_leader v.role) (count n (lags me h v)) 0

-- ---- rule 6: what a member takes of an append

-- the entry of index prev counts as the sender's
abbrev pub fits : Log → ℕ → ℕ → Bool
fits log prev prev_term = nat_le prev log.base || (nat_le prev (last_index log) && nat_eq (term_of log prev) prev_term)

-- the log has this term at the index
abbrev pub has_term : Log → ℕ → ℕ → Bool
has_term log i t = cond (has_index log i) (nat_eq (term_of log i) t) false

-- how many entries at the front have the same terms
abbrev pub agreeing : List LogEntry → List LogEntry → ℕ
agreeing [] ys = 0
agreeing (x ∷ xs) [] = 0
agreeing (x ∷ xs) (y ∷ ys) = cond (nat_eq x.term y.term) (suc (agreeing xs ys)) 0

-- how many of the entries stand at or below the base
abbrev pub below_base : Log → ℕ → List LogEntry → ℕ
below_base log prev es = min (length es) (log.base - prev)

-- how many of the first entries the log has already
abbrev pub matched : Log → ℕ → List LogEntry → ℕ
matched log prev es = below_base log prev es + agreeing (behind log (prev + below_base log prev es)) (drop (below_base log prev es) es)

-- the entry behind those is another than the log's
abbrev pub conflicts : Log → ℕ → List LogEntry → Bool
conflicts log prev es = nat_lt (matched log prev es) (length es) && nat_lt (prev + matched log prev es) (last_index log)

-- and stands at or below the commit index
abbrev pub clashes : Log → ℕ → List LogEntry → ℕ → Bool
clashes log prev es commit = conflicts log prev es && nat_lt (prev + matched log prev es) commit

-- the last index that stays, where something conflicts
abbrev pub keep_of : Log → ℕ → List LogEntry → Option ℕ
keep_of log prev es = cond (conflicts log prev es) (Some (prev + matched log prev es)) None

-- the entries behind the matched ones, up to the first j of the message
abbrev pub missing : Log → ℕ → List LogEntry → ℕ → List LogEntry
missing log prev es j = drop (matched log prev es) (take j es)

-- a follower of this leader whose commit index is at least this
abbrev pub committing : Running → ℕ → ℕ → Running
committing v leader c = record { role = Follower; leader = leader; commit = max v.commit c; votes = v.votes; matches = v.matches; nexts = v.nexts }

-- the answers to one that is refused
abbrev pub refusal : {I : Type 0} → ℕ → ℕ → ℕ → Log → List (ℕ × Mail I)
refusal me from term log = to from (mail.AppendRep term me false (last_index log) [])

-- the answer to one that is taken up to this index
abbrev pub acceptance : {I : Type 0} → ℕ → ℕ → ℕ → ℕ → List (ℕ × Mail I)
acceptance me from term last = to from (mail.AppendRep term me true last [])

-- an append whose entries stand behind one that is the sender's, taken with the first j of them
abbrev pub fitted : {I : Type 0} → ℕ → Held → Running → AppendMail → ℕ → Outcome I
fitted me h v m j = record {
  records = changes h m.term (vote_at h m.term) (keep_of h.log m.prev m.entries) (missing h.log m.prev m.entries j);
  running = committing v m.from (min m.commit (m.prev + j));
  mail = acceptance me m.from m.term (m.prev + j);
}

-- taken with the first j entries; where all are taken j is their number
abbrev pub on_append : {I : Type 0} → ℕ → Held → Running → AppendMail → ℕ → Outcome I
on_append me h v m j = cond (nat_lt m.term h.term) (record { records = []; running = v; mail = refusal me m.from h.term h.log })
    (cond (fits h.log m.prev m.prev_term)
    (cond (clashes h.log m.prev m.entries v.commit)
    (record { records = vote_records h m.term (vote_at h m.term); running = following v m.from; mail = [] })
    (fitted me h v m j))
    (record { records = vote_records h m.term (vote_at h m.term); running = following v m.from; mail = refusal me m.from m.term h.log }))

-- ---- rule 9: images

abbrev pub on_install : {I : Type 0} → ℕ → Held → Running → ℕ → ℕ → ℕ → ℕ → Outcome I
on_install me h v t from index index_term = cond (nat_lt t h.term) (record { records = []; running = v; mail = refusal me from h.term h.log })
    (cond (nat_le index v.commit)
    (record { records = vote_records h t (vote_at h t); running = following v from; mail = to from (mail.InstallRep t me v.commit) })
    (record {
      records = vote_records h t (vote_at h t) ++ record_.Base index index_term ∷ [];
      running = record { role = Follower; leader = from; commit = index; votes = v.votes; matches = v.matches; nexts = v.nexts };
      mail = to from (mail.InstallRep t me index);
    }))

-- the own image of the tree at this index becomes the base, where it is a later one
abbrev pub on_compact : {I : Type 0} → Held → Running → ℕ → Outcome I
on_compact h v index = cond (nat_lt h.log.base index) (record { records = record_.Base index (term_of h.log index) ∷ []; running = v; mail = [] }) (nothing v)
