-- One step of a member.
use Rattle.std.specs.Prelude.{◌≡◌, ℕ, ◌+◌, max, min, Bool, true, false, cond, not, ◌&&◌, ◌||◌, nat_lt, nat_le, List, [], ◌∷◌, length, Option, Some, None}
use Rattle.kp_entry.specs.declared.record.Record.{Record}
use Rattle.kp_entry.specs.declared.record.Record.TheVariants as record_
use Rattle.kp_entry.specs.Log.{Log, last_index}
use Rattle.kp_raft.specs.declared.append.AppendMail.{AppendMail}
use Rattle.kp_raft.specs.declared.append.Weigh.TheVariants as weigh
use Rattle.kp_raft.specs.declared.append.Weighed.{Weighed}
use Rattle.kp_raft.specs.declared.mail.Mail.{Mail}
use Rattle.kp_raft.specs.declared.mail.Mail.TheVariants as mail
use Rattle.kp_raft.specs.declared.event.RaftEvent.{RaftEvent}
use Rattle.kp_raft.specs.declared.event.RaftEvent.TheVariants as event
use Rattle.kp_raft.specs.Numbers.{MAX, is_peer}
use Rattle.kp_entry.specs.Held.{Held}
use Rattle.kp_raft.specs.Parts.{Running, Outcome, nothing}
use Rattle.kp_raft.specs.Rules.{on_timeout, on_vote_req, on_vote_rep, on_append_rep, on_term, on_propose}
use Rattle.kp_raft.specs.Appends.{fits, clashes, matched, keep_of, on_beat, on_append, on_install, on_compact}

-- rule 12: the sender is another member, and the numbers are those of a run
abbrev pub passes_append : ℕ → ℕ → AppendMail → Bool
passes_append n me m = is_peer n me m.from && ((nat_le m.term MAX && nat_le m.prev_term MAX) && (nat_le m.commit MAX && nat_le (m.prev + length m.entries) MAX))

abbrev pub passes : {I : Type 0} → ℕ → ℕ → ℕ → Mail I → Bool
passes n me own_last (mail.VoteReq term from last last_term) = is_peer n me from && (nat_le term MAX && (nat_le last MAX && nat_le last_term MAX))
passes n me own_last (mail.VoteRep term from granted) = is_peer n me from && nat_le term MAX
passes n me own_last (mail.Append m) = passes_append n me m
passes n me own_last (mail.AppendRep term from ok last heard) = is_peer n me from && (nat_le term MAX && nat_le last (cond ok own_last MAX))
passes n me own_last (mail.Install term from index index_term image) = is_peer n me from && (nat_le term MAX && (nat_le index MAX && nat_le index_term MAX))
passes n me own_last (mail.InstallRep term from index) = is_peer n me from && (nat_le term MAX && nat_le index own_last)
passes n me own_last (mail.Forward term from body) = is_peer n me from && nat_le term MAX

-- rules 1 to 9, of an append with its first j entries
abbrev pub on_mail : {I : Type 0} → ℕ → ℕ → Held → Running → ℕ → Mail I → Outcome I
on_mail n me h v j (mail.VoteReq term from last last_term) = on_vote_req me h v term from last last_term
on_mail n me h v j (mail.VoteRep term from granted) = on_vote_rep n me h v term from granted
on_mail n me h v j (mail.Append m) = on_append me h v m j
on_mail n me h v j (mail.AppendRep term from ok last heard) = on_append_rep n me h v term from ok last
on_mail n me h v j (mail.Install term from index index_term image) = on_install me h v term from index index_term
on_mail n me h v j (mail.InstallRep term from index) = on_append_rep n me h v term from true index
on_mail n me h v j (mail.Forward term from body) = on_term h v term

abbrev pub on_delivery : {I : Type 0} → ℕ → ℕ → Held → Running → ℕ → Mail I → Outcome I
on_delivery n me h v j m = cond (passes n me (last_index h.log) m) (on_mail n me h v j m) (nothing v)

-- an append with its first j entries
abbrev pub take : {I : Type 0} → ℕ → ℕ → Held → Running → AppendMail → ℕ → Outcome I
take n me h v m j = cond (passes_append n me m) (on_append me h v m j) (nothing v)

-- the number of entries of an append
abbrev pub all_of : {I : Type 0} → Mail I → ℕ
all_of (mail.VoteReq term from last last_term) = 0
all_of (mail.VoteRep term from granted) = 0
all_of (mail.Append m) = length m.entries
all_of (mail.AppendRep term from ok last heard) = 0
all_of (mail.Install term from index index_term image) = 0
all_of (mail.InstallRep term from index) = 0
all_of (mail.Forward term from body) = 0

-- the step of member me of n, at an event
abbrev pub react : {I : Type 0} → ℕ → ℕ → Held → Running → RaftEvent I → Outcome I
react n me h v event.Timeout = on_timeout n me h v
react n me h v (event.Beat index images) = on_beat n me h v index images
react n me h v (event.Deliver m) = on_delivery n me h v (all_of m) m
react n me h v (event.Propose time bodies) = on_propose n me h v time bodies
react n me h v (event.Compact index) = on_compact h v index

-- the image that a message brings, where rule 9 takes it
abbrev pub image_in : {I : Type 0} → Held → Running → Mail I → Option I
image_in h v (mail.VoteReq term from last last_term) = None
image_in h v (mail.VoteRep term from granted) = None
image_in h v (mail.Append m) = None
image_in h v (mail.AppendRep term from ok last heard) = None
image_in h v (mail.Install term from index index_term image) = cond (nat_lt term h.term) None (cond (nat_le index v.commit) None (Some image))
image_in h v (mail.InstallRep term from index) = None
image_in h v (mail.Forward term from body) = None

-- the image that the step takes
abbrev pub image_of : {I : Type 0} → ℕ → ℕ → Held → Running → RaftEvent I → Option I
image_of n me h v event.Timeout = None
image_of n me h v (event.Beat index images) = None
image_of n me h v (event.Deliver m) = cond (passes n me (last_index h.log) m) (image_in h v m) None
image_of n me h v (event.Propose time bodies) = None
image_of n me h v (event.Compact index) = None

-- what the rules do with an append whose entries stand behind one that is the sender's
abbrev pub fitting : Log → ℕ → AppendMail → Weighed
fitting log commit m = cond (clashes log m.prev m.entries commit)
    (record { kind = weigh.Dropped; matched = 0; keep = None })
    (record { kind = weigh.Taken; matched = matched log m.prev m.entries; keep = keep_of log m.prev m.entries })

-- what the rules do with an append
abbrev pub weighed : ℕ → ℕ → Held → Running → AppendMail → Weighed
weighed n me h v m = cond (passes_append n me m)
    (cond (not (nat_lt m.term h.term) && fits h.log m.prev m.prev_term)
    (fitting h.log v.commit m)
    (record { kind = weigh.Refused; matched = 0; keep = None }))
    (record { kind = weigh.Dropped; matched = 0; keep = None })

abbrev pub IsTaken : Weighed → Type 0
IsTaken w = w.kind ≡ weigh.Taken

-- ---- what a step's records say

-- how many entries they append
abbrev pub added : List Record → ℕ
added [] = 0
added (record_.Vote term vote ∷ rs) = added rs
added (record_.Boot boot ∷ rs) = added rs
added (record_.Append entry ∷ rs) = added rs + 1
added (record_.Truncate last ∷ rs) = added rs
added (record_.Base index term ∷ rs) = added rs

-- the last index that a truncation left
abbrev pub cut_to : List Record → Option ℕ
cut_to [] = None
cut_to (record_.Vote term vote ∷ rs) = cut_to rs
cut_to (record_.Boot boot ∷ rs) = cut_to rs
cut_to (record_.Append entry ∷ rs) = cut_to rs
cut_to (record_.Truncate last ∷ rs) = Some last
cut_to (record_.Base index term ∷ rs) = cut_to rs
