-- What the rules are for: runs of networks of three members of which one rule is changed, where two members apply different entries.
use Rattle.std.specs.Prelude.{◌≡◌, ℕ, Bool, cond, not, ◌&&◌, nat_eq, nat_lt, List, [], ◌∷◌, ◌++◌, map, length, Option, None, Some, slice_get}
use Rattle.kp_model.specs.LogEntry.{LogEntry}
use Rattle.kp_model.specs.declared.entry.Body.TheVariants as body
use Rattle.kp_entry.specs.declared.record.Record.{Record}
use Rattle.kp_entry.specs.declared.record.Record.TheVariants as record_
use Rattle.kp_entry.specs.Heads.{appended}
use Rattle.kp_entry.specs.Log.{Log, based_at, last_index, term_of, behind}
use Rattle.kp_entry.specs.Held.{Held}
use Rattle.kp_raft.specs.declared.mail.Mail.{Mail}
use Rattle.kp_raft.specs.declared.mail.Mail.TheVariants as mail
use Rattle.kp_raft.specs.declared.event.RaftEvent.TheVariants as event
use Rattle.kp_raft.specs.Parts.{Running, Outcome, to}
use Rattle.kp_raft.specs.Steps.{on_delivery, image_of}
use Rattle.kp_world.specs.Net.{Net, Sent, Act, Step, At, Comes, Event, Does, Tears, Starts, Commits, acted, did, is_member, taken_of, front_behind, started_at, committed_at, full, run, blank}
use Rattle.kp_world.specs.NetworkRuns.{written, opening}

-- ---- a network whose members hear in another way

-- what member me of n does with a message, of an append with its first j entries
abbrev pub Hearing : Type 0
Hearing = ℕ → ℕ → Held → Running → ℕ → Mail ℕ → Outcome ℕ

abbrev pub hears_by : Hearing → ℕ → ℕ → Held → Running → List LogEntry → Mail ℕ → List LogEntry → ℕ → Act ℕ
hears_by on n me h v done m list j = record {
  out = on n me h v (taken_of h.log m j) m;
  list = list;
  done = front_behind list done (on n me h v (taken_of h.log m j) m).records;
}

abbrev pub delivered_by : Hearing → ℕ → Net ℕ → Sent ℕ → ℕ → Option ℕ → Option Running → Net ℕ
delivered_by on n w m j stop None = w
delivered_by on n w m j stop (Some v) = did w m.to (hears_by on n m.to (w.nodes m.to).stored.held v (w.nodes m.to).done m.message m.list j) stop

abbrev pub came_by : Hearing → ℕ → Net ℕ → ℕ → Option ℕ → Option (Sent ℕ) → Net ℕ
came_by on n w j stop None = w
came_by on n w j stop (Some m) = delivered_by on n w m j stop (w.nodes m.to).running

abbrev pub steps_by : Hearing → ℕ → Net ℕ → Step ℕ → Option ℕ → Net ℕ
steps_by on n w (At k own) stop = cond (is_member n k) (acted n w k own stop (w.nodes k).running) w
steps_by on n w (Comes i j) stop = came_by on n w j stop (slice_get w.sent i)

abbrev pub happens_by : Hearing → ℕ → Net ℕ → Event ℕ → Net ℕ
happens_by on n w (Does s) = steps_by on n w s None
happens_by on n w (Tears s j) = steps_by on n w s (Some j)
happens_by on n w (Starts k) = started_at w k
happens_by on n w (Commits k) = committed_at w k (w.nodes k).running (slice_get (full (w.nodes k).stored) (length (w.nodes k).done))

abbrev pub run_by : Hearing → ℕ → List (Event ℕ) → Net ℕ → Net ℕ
run_by on n [] w = w
run_by on n (e ∷ es) w = run_by on n es (happens_by on n w e)

-- with the rule as it is this is the network
abbrev pub ChangeAlone : Type 0
ChangeAlone = (n : ℕ) (events : List (Event ℕ)) (w : Net ℕ) → run_by (on_delivery {I = ℕ}) n events w ≡ run n events w

-- what a member has applied behind these events
abbrev pub applied_by : Hearing → List (Event ℕ) → ℕ → List LogEntry
applied_by on events k = ((run_by on 3 events blank).nodes k).done

-- ---- a vote without a look at the logs

abbrev pub unlogged : Held → Held
unlogged h = record { term = h.term; vote = h.vote; log = based_at 0 0 }

abbrev pub blindly : Hearing
blindly n me h v j (mail.VoteReq term from last last_term) = on_delivery n me (unlogged h) v j (mail.VoteReq term from last last_term)
blindly n me h v j (mail.VoteRep term from granted) = on_delivery n me h v j (mail.VoteRep term from granted)
blindly n me h v j (mail.Append m) = on_delivery n me h v j (mail.Append m)
blindly n me h v j (mail.AppendRep term from ok last heard) = on_delivery n me h v j (mail.AppendRep term from ok last heard)
blindly n me h v j (mail.Install term from index index_term image) = on_delivery n me h v j (mail.Install term from index index_term image)
blindly n me h v j (mail.InstallRep term from index) = on_delivery n me h v j (mail.InstallRep term from index)
blindly n me h v j (mail.Forward term from sent) = on_delivery n me h v j (mail.Forward term from sent)

-- member 1 leads, and its two entries are applied; member 3, which has none, is elected by member 2 and its no-op takes their place
abbrev pub forgetful : List (Event ℕ)
forgetful =
    Does (At 1 event.Timeout) ∷ Does (Comes 0 0) ∷ Does (Comes 0 0) ∷ Does (At 1 (event.Propose 5 (body.Noop ∷ []))) ∷ Does (At 1 (event.Beat 0 []))
    ∷ Does (Comes 0 2) ∷ Does (Comes 0 0) ∷ Commits 1 ∷ Commits 1
    ∷ Does (At 3 event.Timeout) ∷ Does (At 3 event.Timeout) ∷ Does (Comes 1 0) ∷ Does (Comes 0 0) ∷ Does (At 3 (event.Beat 0 []))
    ∷ Does (Comes 1 1) ∷ Does (Comes 0 0) ∷ Commits 3 ∷ []

pub record LogsAreCompared : Type 0 where
  pub one : applied_by blindly forgetful 1 ≡ opening 1 ∷ written 1 5 ∷ []
  pub three : applied_by blindly forgetful 3 ≡ opening 2 ∷ []

-- ---- a second vote in a term

abbrev pub unvoted : Held → Held
unvoted h = record { term = h.term; vote = 0; log = h.log }

abbrev pub twice : Hearing
twice n me h v j (mail.VoteReq term from last last_term) = on_delivery n me (unvoted h) v j (mail.VoteReq term from last last_term)
twice n me h v j (mail.VoteRep term from granted) = on_delivery n me h v j (mail.VoteRep term from granted)
twice n me h v j (mail.Append m) = on_delivery n me h v j (mail.Append m)
twice n me h v j (mail.AppendRep term from ok last heard) = on_delivery n me h v j (mail.AppendRep term from ok last heard)
twice n me h v j (mail.Install term from index index_term image) = on_delivery n me h v j (mail.Install term from index index_term image)
twice n me h v j (mail.InstallRep term from index) = on_delivery n me h v j (mail.InstallRep term from index)
twice n me h v j (mail.Forward term from sent) = on_delivery n me h v j (mail.Forward term from sent)

-- members 1 and 3 stand in term 1, and member 2 votes for both; each writes an entry, and member 2 takes those of the one and then those of the other
abbrev pub rivals : List (Event ℕ)
rivals =
    Does (At 1 event.Timeout) ∷ Does (Comes 0 0) ∷ Does (Comes 0 0) ∷ Does (At 1 (event.Propose 5 (body.Noop ∷ [])))
    ∷ Does (At 3 event.Timeout) ∷ Does (Comes 1 0) ∷ Does (Comes 0 0) ∷ Does (At 3 (event.Propose 7 (body.Noop ∷ [])))
    ∷ Does (At 1 (event.Beat 0 [])) ∷ Does (Comes 0 2) ∷ Does (Comes 0 0) ∷ Commits 1 ∷ Commits 1
    ∷ Does (At 3 (event.Beat 0 [])) ∷ Does (Comes 1 2) ∷ Does (Comes 0 0) ∷ Commits 3 ∷ Commits 3 ∷ []

pub record VotesAreSingle : Type 0 where
  pub one : applied_by twice rivals 1 ≡ opening 1 ∷ written 1 5 ∷ []
  pub three : applied_by twice rivals 3 ≡ opening 1 ∷ written 1 7 ∷ []

-- ---- a vote that isn't recorded

abbrev pub without_vote : Record → Record
without_vote (record_.Vote term vote) = record_.Vote term 0
without_vote (record_.Boot boot) = record_.Boot boot
without_vote (record_.Append entry) = record_.Append entry
without_vote (record_.Truncate last) = record_.Truncate last
without_vote (record_.Base index term) = record_.Base index term

abbrev pub unrecorded : Outcome ℕ → Outcome ℕ
unrecorded o = record { records = map without_vote o.records; running = o.running; mail = o.mail }

abbrev pub off_the_record : Hearing
off_the_record n me h v j m = unrecorded (on_delivery n me h v j m)

pub record VotesAreRecorded : Type 0 where
  pub one : applied_by off_the_record rivals 1 ≡ opening 1 ∷ written 1 5 ∷ []
  pub three : applied_by off_the_record rivals 3 ≡ opening 1 ∷ written 1 7 ∷ []

-- ---- an entry of an older term that is committed by count

abbrev pub of_term : ℕ → LogEntry → LogEntry
of_term term e = record { term = term; time = e.time; body = e.body }

-- as if each entry were of the own term
abbrev pub renewed : Held → Held
renewed h = record { term = h.term; vote = h.vote; log = record { base = h.log.base; base_term = h.log.base_term; entries = map (of_term h.term) h.log.entries } }

abbrev pub by_count : Hearing
by_count n me h v j (mail.VoteReq term from last last_term) = on_delivery n me h v j (mail.VoteReq term from last last_term)
by_count n me h v j (mail.VoteRep term from granted) = on_delivery n me h v j (mail.VoteRep term from granted)
by_count n me h v j (mail.Append m) = on_delivery n me h v j (mail.Append m)
by_count n me h v j (mail.AppendRep term from ok last heard) = on_delivery n me (renewed h) v j (mail.AppendRep term from ok last heard)
by_count n me h v j (mail.Install term from index index_term image) = on_delivery n me h v j (mail.Install term from index index_term image)
by_count n me h v j (mail.InstallRep term from index) = on_delivery n me h v j (mail.InstallRep term from index)
by_count n me h v j (mail.Forward term from sent) = on_delivery n me h v j (mail.Forward term from sent)

-- member 1 leads in term 1 and member 2 in term 2, each with a no-op that reaches nobody; member 1 leads in term 3, sends its older entry alone to member 3, and applies it; member 2 leads in term 4, and its entries take that one's place
abbrev pub older : List (Event ℕ)
older =
    Does (At 1 event.Timeout) ∷ Does (Comes 0 0) ∷ Does (Comes 0 0)
    ∷ Does (At 2 event.Timeout) ∷ Does (Comes 1 0) ∷ Does (Comes 0 0)
    ∷ Starts 1 ∷ Does (At 1 event.Timeout) ∷ Does (At 1 event.Timeout) ∷ Does (Comes 1 0) ∷ Does (Comes 0 0)
    ∷ Does (At 1 (event.Beat 0 [])) ∷ Does (Comes 1 0) ∷ Does (Comes 0 0) ∷ Does (At 1 (event.Beat 0 [])) ∷ Does (Comes 1 1) ∷ Does (Comes 0 0) ∷ Commits 1
    ∷ Starts 2 ∷ Does (At 2 event.Timeout) ∷ Does (At 2 event.Timeout) ∷ Does (Comes 1 0) ∷ Does (Comes 0 0)
    ∷ Does (At 2 (event.Beat 0 [])) ∷ Does (Comes 1 0) ∷ Does (Comes 0 0) ∷ Does (At 2 (event.Beat 0 [])) ∷ Does (Comes 1 2) ∷ Does (Comes 0 0) ∷ Commits 2 ∷ []

pub record TermsAreLookedAt : Type 0 where
  pub one : applied_by by_count older 1 ≡ opening 1 ∷ []
  pub two : applied_by by_count older 2 ≡ opening 2 ∷ []

-- ---- an image behind which a stale tail stays, as if it were the leader's

-- the log goes on behind the index, at which it has another term
abbrev pub is_stale : Log → ℕ → ℕ → Bool
is_stale log index index_term = nat_lt index (last_index log) && not (nat_eq (term_of log index) index_term)

-- the entries behind the image stay, and the answer is for them too
abbrev pub with_tail : ℕ → Log → ℕ → ℕ → ℕ → Outcome ℕ → Outcome ℕ
with_tail me log term from index o = record {
  records = o.records ++ appended (behind log index);
  running = o.running;
  mail = to from (mail.InstallRep term me (last_index log));
}

-- where the image isn't taken, and where nothing behind it is stale, nothing is changed
abbrev pub with_stale : ℕ → Log → ℕ → ℕ → ℕ → ℕ → Option ℕ → Outcome ℕ → Outcome ℕ
with_stale me log term from index index_term None o = o
with_stale me log term from index index_term (Some image) o = cond (is_stale log index index_term) (with_tail me log term from index o) o

abbrev pub holding_on : Hearing
holding_on n me h v j (mail.VoteReq term from last last_term) = on_delivery n me h v j (mail.VoteReq term from last last_term)
holding_on n me h v j (mail.VoteRep term from granted) = on_delivery n me h v j (mail.VoteRep term from granted)
holding_on n me h v j (mail.Append m) = on_delivery n me h v j (mail.Append m)
holding_on n me h v j (mail.AppendRep term from ok last heard) = on_delivery n me h v j (mail.AppendRep term from ok last heard)
holding_on n me h v j (mail.Install term from index index_term image) = with_stale me h.log term from index index_term (image_of n me h v (event.Deliver (mail.Install term from index index_term image))) (on_delivery n me h v j (mail.Install term from index index_term image))
holding_on n me h v j (mail.InstallRep term from index) = on_delivery n me h v j (mail.InstallRep term from index)
holding_on n me h v j (mail.Forward term from sent) = on_delivery n me h v j (mail.Forward term from sent)

-- member 3 leads in term 1 and writes two entries that reach nobody; member 1 leads in term 2, its no-op is applied, and it makes a snapshot and writes an entry; member 3 takes its image and answers for the entry behind it, so that member 1 applies its own; member 2 leads in term 3 by the vote of member 3, and its no-op takes that one's place
abbrev pub outdated : List (Event ℕ)
outdated =
    Does (At 3 event.Timeout) ∷ Does (Comes 0 0) ∷ Does (Comes 0 0) ∷ Does (At 3 (event.Propose 5 (body.Noop ∷ [])))
    ∷ Does (At 1 event.Timeout) ∷ Does (Comes 0 0) ∷ Does (Comes 0 0)
    ∷ Does (At 1 (event.Beat 0 [])) ∷ Does (Comes 0 1) ∷ Does (Comes 0 0) ∷ Commits 1
    ∷ Does (At 1 (event.Compact 1)) ∷ Does (At 1 (event.Propose 7 (body.Noop ∷ [])))
    ∷ Does (At 1 (event.Beat 1 (77 ∷ []))) ∷ Does (Comes 1 0) ∷ Does (Comes 0 0) ∷ Commits 1
    ∷ Does (At 2 event.Timeout) ∷ Does (Comes 1 0) ∷ Does (Comes 0 0)
    ∷ Does (At 2 (event.Beat 0 [])) ∷ Does (Comes 1 1) ∷ Does (Comes 0 0) ∷ Commits 2 ∷ Commits 2 ∷ []

pub record TailsAreDropped : Type 0 where
  pub one : applied_by holding_on outdated 1 ≡ opening 2 ∷ written 2 7 ∷ []
  pub two : applied_by holding_on outdated 2 ≡ opening 2 ∷ opening 3 ∷ []
