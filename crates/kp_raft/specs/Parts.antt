-- What a stop loses, and what a step gives.
use Rattle.std.specs.Prelude.{ℕ, Bool, true, cond, ◌&&◌, nat_eq, nat_lt, List, [], ◌∷◌, ◌++◌, Option, Some, None, false}
use Rattle.kp_model.specs.LogEntry.{LogEntry}
use Rattle.kp_entry.specs.Heads.{appended}
use Rattle.kp_model.specs.declared.read.Role.{Role}
use Rattle.kp_model.specs.declared.read.Role.TheVariants.{Follower, Candidate, Leader}
use Rattle.kp_entry.specs.declared.record.Record.{Record}
use Rattle.kp_entry.specs.declared.record.Record.TheVariants as record_
use Rattle.kp_entry.specs.Log.{Log, last_index, truncated}
use Rattle.kp_raft.specs.declared.mail.Mail.{Mail}
use Rattle.kp_entry.specs.Held.{Held}

pub record Running : Type 0 where
  pub role : Role
  pub leader : ℕ  -- the leader that it knows, or 0
  pub commit : ℕ
  pub votes : ℕ → Bool  -- of a candidate: who has voted for it
  pub matches : ℕ → ℕ  -- of a leader: up to where each peer's log is known to be its own
  pub nexts : ℕ → ℕ  -- of a leader: where it goes on sending to each peer

pub record Outcome (I : Type 0) : Type 0 where
  pub records : List Record
  pub running : Running
  pub mail : List (ℕ × Mail I)  -- receiver and message

abbrev pub is_leader : Role → Bool
is_leader Leader = true
is_leader Candidate = false
is_leader Follower = false

abbrev pub is_candidate : Role → Bool
is_candidate Candidate = true
is_candidate Leader = false
is_candidate Follower = false

abbrev pub nothing : {I : Type 0} → Running → Outcome I
nothing v = record { records = []; running = v; mail = [] }

-- one message
abbrev pub to : {I : Type 0} → ℕ → Mail I → List (ℕ × Mail I)
to receiver m = (receiver, m) ∷ []

-- the record of term and vote, where one of them changed
abbrev pub vote_records : Held → ℕ → ℕ → List Record
vote_records h t v = cond (nat_eq h.term t && nat_eq h.vote v) [] (record_.Vote t v ∷ [])

-- a follower of this leader, or of none where it is 0
abbrev pub following : Running → ℕ → Running
following v leader = record { role = Follower; leader = leader; commit = v.commit; votes = v.votes; matches = v.matches; nexts = v.nexts }

-- rule 1, for a message of term t, which is not below the own: a greater term takes the vote, the role and the leader away
abbrev pub vote_at : Held → ℕ → ℕ
vote_at h t = cond (nat_lt h.term t) 0 h.vote

abbrev pub running_at : Held → Running → ℕ → Running
running_at h v t = cond (nat_lt h.term t) (following v 0) v

-- at a start
abbrev pub started : ℕ → Running
started commit = record { role = Follower; leader = 0; commit = commit; votes = λ k. false; matches = λ k. 0; nexts = λ k. 0 }

-- with the record of a truncation behind them, where there is one
abbrev pub with_cut : List Record → Option ℕ → List Record
with_cut rs None = rs
with_cut rs (Some last) = rs ++ record_.Truncate last ∷ []

-- all records of a step but a base: term and vote, a truncation, appended entries
abbrev pub changes : Held → ℕ → ℕ → Option ℕ → List LogEntry → List Record
changes h t v cut es = with_cut (vote_records h t v) cut ++ appended es

-- the log up to an index, where one is given
abbrev pub cut_log : Log → Option ℕ → Log
cut_log log None = log
cut_log log (Some k) = truncated log k

-- the last index that stays then
abbrev pub kept_to : Log → Option ℕ → ℕ
kept_to log None = last_index log
kept_to log (Some k) = k

-- a list of what is there
abbrev pub listed : {A : Type 0} → Option A → List A
listed None = []
listed (Some a) = a ∷ []
