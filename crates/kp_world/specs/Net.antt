-- The network: every member, and every message that was ever sent.
use Rattle.std.specs.Prelude.{ℕ, ◌⊎◌, ◌≤◌, max, min, Bool, cond, ◌&&◌, nat_lt, nat_le, List, [], ◌∷◌, ◌++◌, length, take, Option, None, Some, slice_get}
use mathlib.Core.List.{IsPrefix}
use Rattle.kp_model.specs.LogEntry.{LogEntry}
use Rattle.kp_entry.specs.declared.record.Record.{Record}
use Rattle.kp_entry.specs.declared.record.Record.TheVariants as record_
use Rattle.kp_entry.specs.Log.{Log, based_at}
use Rattle.kp_raft.specs.declared.mail.Mail.{Mail}
use Rattle.kp_raft.specs.declared.mail.Mail.TheVariants as mail
use Rattle.kp_raft.specs.declared.event.RaftEvent.{RaftEvent}
use Rattle.kp_raft.specs.declared.event.RaftEvent.TheVariants as event
use Rattle.kp_raft.specs.Numbers.{set_at}
use Rattle.kp_entry.specs.Held.{Held, replay}
use Rattle.kp_raft.specs.Parts.{Running, Outcome, nothing, started}
use Rattle.kp_raft.specs.Appends.{matched}
use Rattle.kp_raft.specs.Steps.{react, on_delivery}

-- what outlives a stop: what its records replay to, and the entries that the image of its base stands for
pub record Stored : Type 0 where
  pub held : Held
  pub front : List LogEntry

-- the whole log, with the entries that the image stands for
abbrev pub full : Stored → List LogEntry
full s = s.front ++ s.held.log.entries

pub record Node : Type 0 where
  pub stored : Stored
  pub running : Option Running  -- None where it is down
  pub done : List LogEntry  -- the entries that it has applied

-- a message that was sent, and the entries that its image stands for, where it has one
pub record Sent (I : Type 0) : Type 0 where
  pub to : ℕ
  pub message : Mail I
  pub list : List LogEntry

pub record Net (I : Type 0) : Type 0 where
  pub nodes : ℕ → Node
  pub sent : List (Sent I)

-- the list of the last base among these records, or what it was
abbrev pub front_behind : List LogEntry → List LogEntry → List Record → List LogEntry
front_behind list front [] = front
front_behind list front (record_.Vote t v ∷ rs) = front_behind list front rs
front_behind list front (record_.Boot b ∷ rs) = front_behind list front rs
front_behind list front (record_.Append e ∷ rs) = front_behind list front rs
front_behind list front (record_.Truncate i ∷ rs) = front_behind list front rs
front_behind list front (record_.Base i t ∷ rs) = front_behind list list rs

-- what is stored behind these records, of which a base stands for this list
abbrev pub behind_records : List LogEntry → Stored → List Record → Stored
behind_records list s rs = record { held = replay s.held rs; front = front_behind list s.front rs }

-- a step: what the rules give, the list that goes with its images, and what is applied behind it
pub record Act (I : Type 0) : Type 0 where
  pub out : Outcome I
  pub list : List LogEntry
  pub done : List LogEntry

abbrev pub no_act : {I : Type 0} → Running → List LogEntry → Act I
no_act v done = record { out = nothing v; list = []; done = done }

-- an image can be made of the tree at this index
abbrev pub has_image : Held → List LogEntry → ℕ → Bool
has_image h done index = nat_le h.log.base index && nat_le index (length done)

-- a timer, bodies to append, or a snapshot; an image is of what is applied up to its index; no message is made up
abbrev pub acts : {I : Type 0} → ℕ → ℕ → Held → Running → List LogEntry → RaftEvent I → Act I
acts n me h v done event.Timeout = record { out = react n me h v event.Timeout; list = []; done = done }
acts n me h v done (event.Beat index images) = cond (has_image h done index) (record { out = react n me h v (event.Beat index images); list = take index done; done = done }) (no_act v done)
acts n me h v done (event.Deliver m) = no_act v done
acts n me h v done (event.Propose time bodies) = record { out = react n me h v (event.Propose time bodies); list = []; done = done }
acts n me h v done (event.Compact index) = cond (has_image h done index) (record { out = react n me h v (event.Compact index); list = take index done; done = done }) (no_act v done)

-- how many entries of an append are taken where there is memory for j
abbrev pub taken_of : {I : Type 0} → Log → Mail I → ℕ → ℕ
taken_of log (mail.Append m) j = max (matched log m.prev m.entries) (min j (length m.entries))
taken_of log (mail.VoteReq term from last last_term) j = 0
taken_of log (mail.VoteRep term from granted) j = 0
taken_of log (mail.AppendRep term from ok last heard) j = 0
taken_of log (mail.Install term from index index_term image) j = 0
taken_of log (mail.InstallRep term from index) j = 0
taken_of log (mail.Forward term from body) j = 0

-- a message comes; the list of an image that is taken is applied then
abbrev pub hears : {I : Type 0} → ℕ → ℕ → Held → Running → List LogEntry → Mail I → List LogEntry → ℕ → Act I
hears n me h v done m list j = record {
  out = on_delivery n me h v (taken_of h.log m j) m;
  list = list;
  done = front_behind list done (on_delivery n me h v (taken_of h.log m j) m).records;
}

abbrev pub sent_with : {I : Type 0} → List LogEntry → List (ℕ × Mail I) → List (Sent I)
sent_with list [] = []
sent_with list (m ∷ ms) = record { to = m.0; message = m.1; list = list } ∷ sent_with list ms

-- what happens: a member's own event, or the i-th message that was sent comes to its receiver, which has memory for j entries
pub data Step (I : Type 0) : Type 0 where
  At : (k : ℕ) → (own : RaftEvent I) → Step I
  Comes : (i j : ℕ) → Step I

pub data Event (I : Type 0) : Type 0 where
  Does : (step : Step I) → Event I
  Tears : (step : Step I) → (j : ℕ) → Event I  -- a stop in a step, of which the first j records stay; its messages are lost
  Starts : (k : ℕ) → Event I  -- a start from the replay of the records
  Commits : (k : ℕ) → Event I  -- one entry is applied

-- (a step's fate: it is done, or stopped behind its first j records)
abbrev pub did : {I : Type 0} → Net I → ℕ → Act I → Option ℕ → Net I
did w k a None = record {
  nodes = set_at w.nodes k (record { stored = behind_records a.list (w.nodes k).stored a.out.records; running = Some a.out.running; done = a.done });
  sent = sent_with a.list a.out.mail ++ w.sent;
}
did w k a (Some j) = record {
  nodes = set_at w.nodes k (record { stored = behind_records a.list (w.nodes k).stored (take j a.out.records); running = None; done = (w.nodes k).done });
  sent = w.sent;
}

abbrev pub is_member : ℕ → ℕ → Bool
is_member n k = nat_lt 0 k && nat_le k n

abbrev pub acted : {I : Type 0} → ℕ → Net I → ℕ → RaftEvent I → Option ℕ → Option Running → Net I
acted n w k own stop None = w
acted n w k own stop (Some v) = did w k (acts n k (w.nodes k).stored.held v (w.nodes k).done own) stop

abbrev pub heard_by : {I : Type 0} → ℕ → Net I → Sent I → ℕ → Option ℕ → Option Running → Net I
heard_by n w m j stop None = w
heard_by n w m j stop (Some v) = did w m.to (hears n m.to (w.nodes m.to).stored.held v (w.nodes m.to).done m.message m.list j) stop

abbrev pub heard : {I : Type 0} → ℕ → Net I → ℕ → Option ℕ → Option (Sent I) → Net I
heard n w j stop None = w
heard n w j stop (Some m) = heard_by n w m j stop (w.nodes m.to).running

abbrev pub steps : {I : Type 0} → ℕ → Net I → Step I → Option ℕ → Net I
steps n w (At k own) stop = cond (is_member n k) (acted n w k own stop (w.nodes k).running) w
steps n w (Comes i j) stop = heard n w j stop (slice_get w.sent i)

abbrev pub started_at : {I : Type 0} → Net I → ℕ → Net I
started_at w k = record { nodes = set_at w.nodes k (record { stored = (w.nodes k).stored; running = Some (started (w.nodes k).stored.held.log.base); done = (w.nodes k).stored.front }); sent = w.sent }

-- the next entry is applied where the commit index is above
abbrev pub committed_at : {I : Type 0} → Net I → ℕ → Option Running → Option LogEntry → Net I
committed_at w k (Some v) (Some e) = cond (nat_lt (length (w.nodes k).done) v.commit)
    (record { nodes = set_at w.nodes k (record { stored = (w.nodes k).stored; running = Some v; done = (w.nodes k).done ++ e ∷ [] }); sent = w.sent })
    w
committed_at w k (Some v) None = w
committed_at w k None e = w

abbrev pub happens : {I : Type 0} → ℕ → Net I → Event I → Net I
happens n w (Does s) = steps n w s None
happens n w (Tears s j) = steps n w s (Some j)
happens n w (Starts k) = started_at w k
happens n w (Commits k) = committed_at w k (w.nodes k).running (slice_get (full (w.nodes k).stored) (length (w.nodes k).done))

abbrev pub run : {I : Type 0} → ℕ → List (Event I) → Net I → Net I
run n [] w = w
run n (e ∷ es) w = run n es (happens n w e)

-- all members are started blank
abbrev pub blank : {I : Type 0} → Net I
blank = record {
  nodes = λ k. record { stored = record { held = record { term = 0; vote = 0; log = based_at 0 0 }; front = [] }; running = Some (started 0); done = [] };
  sent = [];
}

-- of what two members have applied, at one moment and at another, one begins the other
abbrev pub HaveOneLog : {I : Type 0} → Net I → Net I → Type 0
HaveOneLog v w = (j k : ℕ) → IsPrefix (v.nodes j).done (w.nodes k).done ⊎ IsPrefix (w.nodes k).done (v.nodes j).done

abbrev pub OneLog : Type 0 → Type 0
OneLog I = (n : ℕ) (events later : List (Event I)) → HaveOneLog (run n events (blank {I = I})) (run n later (run n events (blank {I = I})))

-- the network after the first i events
abbrev pub moment : {I : Type 0} → ℕ → List (Event I) → ℕ → Net I
moment n events i = run n (take i events) blank

-- one list, what some member has applied at some moment, is begun by all that any member has applied at any moment
pub record IsOneList {I : Type 0} (n : ℕ) (events : List (Event I)) : Type 0 where
  pub moment : ℕ
  pub member : ℕ
  pub all : (i k : ℕ) → i ≤ length events → k ≤ n → IsPrefix ((Rattle.kp_world.specs.Net.moment n events i).nodes k).done ((Rattle.kp_world.specs.Net.moment n events moment).nodes member).done

abbrev pub OneList : Type 0 → Type 0
OneList I = (n : ℕ) (events : List (Event I)) → IsOneList n events
