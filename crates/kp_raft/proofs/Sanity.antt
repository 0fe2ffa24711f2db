-- Runs of the rules, by computation: an election, appends, commits; and a deposed leader whose entry is cut off.
use Rattle.std.specs.Prelude.{◌≡◌, ℕ, zero, suc, ◌+◌, Bool, true, false, cond, nat_eq, List, [], ◌∷◌, ◌++◌, length, slice_get, Option, Some, None, refl}
use Rattle.kp_model.specs.LogEntry.{LogEntry}
use Rattle.kp_model.specs.declared.entry.Body.{Body}
use Rattle.kp_model.specs.declared.entry.Body.TheVariants as body
use Rattle.kp_model.specs.declared.read.Role.{Role}
use Rattle.kp_model.specs.declared.read.Role.TheVariants.{Follower, Candidate, Leader}
use Rattle.kp_entry.specs.declared.record.Record.{Record}
use Rattle.kp_entry.specs.declared.record.Record.TheVariants as record_
use Rattle.kp_jute.specs.Jute.{unsigned}
use Rattle.kp_entry.specs.Log.{Log, based_at, last_index}
use Rattle.kp_raft.specs.declared.mail.Mail.{Mail}
use Rattle.kp_raft.specs.declared.mail.Mail.TheVariants as mail
use Rattle.kp_raft.specs.declared.event.RaftEvent.{RaftEvent}
use Rattle.kp_raft.specs.declared.event.RaftEvent.TheVariants as event
use Rattle.kp_raft.specs.Numbers.{set_at}
use Rattle.kp_entry.specs.Held.{Held, replay}
use Rattle.kp_raft.specs.Parts.{Running, Outcome}
use Rattle.kp_raft.specs.Steps.{react}

record Node : Type 0 where
  held : Held
  running : Running
  records : List Record

record World : Type 0 where
  nodes : ℕ → Node
  sent : List (ℕ × Mail ℕ)

abbrev blank : Node
blank = record { held = record { term = 0; vote = 0; log = based_at 0 0 }; running = record { role = Follower; leader = 0; commit = 0; votes = λ k. false; matches = λ k. 0; nexts = λ k. 0 }; records = [] }

abbrev fresh : World
fresh = record { nodes = λ k. blank; sent = [] }

abbrev took : World → ℕ → Outcome ℕ → World
took w k o = record { nodes = set_at w.nodes k (record { held = replay (w.nodes k).held o.records; running = o.running; records = o.records }); sent = w.sent ++ o.mail }

abbrev at : World → ℕ → RaftEvent ℕ → World
at w k e = took w k (react 3 k (w.nodes k).held (w.nodes k).running e)

abbrev handed : World → Option (ℕ × Mail ℕ) → World
handed w None = w
handed w (Some m) = at w m.0 (event.Deliver m.1)

-- the message of this number, counted from 1
abbrev deliver : ℕ → World → World
deliver zero w = w
deliver (suc i) w = handed w (slice_get w.sent i)

abbrev timeout : ℕ → World → World
timeout k w = at w k event.Timeout

abbrev beat : ℕ → World → World
beat k w = at w k (event.Beat 0 [])

abbrev writes : ℕ → List Body → World → World
writes k bs w = at w k (event.Propose 0 bs)

-- a member's role, term, last index and commit index
abbrev told : ℕ → World → Role × (ℕ × (ℕ × ℕ))
told k w = ((w.nodes k).running.role, ((w.nodes k).held.term, (last_index (w.nodes k).held.log, (w.nodes k).running.commit)))

-- ---- an election, a commit, a write that a later leader cuts off

abbrev line1 : World
line1 = timeout 1 fresh

stands : told 1 line1 ≡ (Candidate, (1, (0, 0)))
stands = refl

asks : line1.sent ≡ (2, mail.VoteReq 1 1 0 0) ∷ (3, mail.VoteReq 1 1 0 0) ∷ []
asks = refl

abbrev line2 : World
line2 = deliver 1 line1

votes_for : told 2 line2 ≡ (Follower, (1, (0, 0)))
votes_for = refl

records_vote : (line2.nodes 2).records ≡ record_.Vote 1 1 ∷ []
records_vote = refl

abbrev line3 : World
line3 = deliver 3 line2

wins : told 1 line3 ≡ (Leader, (1, (1, 0)))
wins = refl

abbrev line4 : World
line4 = beat 1 line3

sends : slice_get line4.sent 3 ≡ Some (2, mail.Append (record { term = 1; from = 1; prev = 0; prev_term = 0; commit = 0; entries = record { term = 1; time = 0; body = body.Noop } ∷ [] }))
sends = refl

abbrev line5 : World
line5 = deliver 4 line4

follows : told 2 line5 ≡ (Follower, (1, (1, 0)))
follows = refl

answers : slice_get line5.sent 5 ≡ Some (1, mail.AppendRep 1 2 true 1 [])
answers = refl

abbrev line6 : World
line6 = deliver 6 line5

commits : told 1 line6 ≡ (Leader, (1, (1, 1)))
commits = refl

-- an entry is appended; each peer is sent what it lacks
abbrev line10 : World
line10 = beat 1 (writes 1 (body.Noop ∷ []) line6)

abbrev line11 : World
line11 = deliver 7 line10

takes : told 2 line11 ≡ (Follower, (1, (2, 1)))
takes = refl

abbrev line12 : World
line12 = deliver 9 line11

commits_again : told 1 line12 ≡ (Leader, (1, (2, 2)))
commits_again = refl

-- two more entries that reach nobody, and another leader
abbrev line17 : World
line17 = timeout 2 (writes 1 (body.Noop ∷ body.Noop ∷ []) line12)

asks_again : slice_get line17.sent 10 ≡ Some (3, mail.VoteReq 2 2 2 1)
asks_again = refl

abbrev line19 : World
line19 = deliver 12 (deliver 11 line17)

wins_again : told 2 line19 ≡ (Leader, (2, (3, 1)))
wins_again = refl

abbrev line21 : World
line21 = deliver 13 (beat 2 line19)

cuts : told 1 line21 ≡ (Follower, (2, (3, 2)))
cuts = refl

records_cut : (line21.nodes 1).records ≡ record_.Vote 2 0 ∷ record_.Truncate 2 ∷ record_.Append (record { term = 2; time = 0; body = body.Noop }) ∷ []
records_cut = refl

abbrev line24 : World
line24 = deliver 15 line21

commits_third : told 2 line24 ≡ (Leader, (2, (3, 3)))
commits_third = refl

abbrev line29 : World
line29 = deliver 18 (deliver 16 (beat 2 (writes 2 (body.Noop ∷ []) line24)))

commits_fourth : told 2 line29 ≡ (Leader, (2, (4, 4)))
commits_fourth = refl

-- the third member refuses entries that it can't follow, and is then sent all
abbrev line34 : World
line34 = deliver 17 (writes 2 (body.Noop ∷ []) line29)

refuses : slice_get line34.sent 18 ≡ Some (2, mail.AppendRep 2 3 false 0 [])
unfolding unsigned
refuses = refl

abbrev line37 : World
line37 = deliver 21 (beat 2 (deliver 19 line34))

catches_up : told 3 line37 ≡ (Follower, (2, (5, 4)))
unfolding unsigned
catches_up = refl

-- ---- a body that is forwarded changes nothing by itself

abbrev line14 : World
line14 = line12

abbrev forward : World → World
forward w = at w 1 (event.Deliver (mail.Forward 1 2 body.Noop))

forwards : told 1 (forward line14) ≡ (Leader, (1, (2, 2)))
forwards = refl

-- the node proposes it the first time that it comes
abbrev line16 : World
line16 = writes 1 (body.Noop ∷ []) (forward line14)

proposes : told 1 line16 ≡ (Leader, (1, (3, 2)))
proposes = refl

forwards_again : told 1 (forward (forward line16)) ≡ (Leader, (1, (3, 2)))
forwards_again = refl

-- ---- an image in place of entries

abbrev snap : World
snap = at line14 1 (event.Compact 2)

compacts : (snap.nodes 1).records ≡ record_.Base 2 1 ∷ []
compacts = refl

abbrev snap_sent : World
snap_sent = at snap 1 (event.Beat 2 (77 ∷ []))

sends_image : slice_get snap_sent.sent 10 ≡ Some (3, mail.Install 1 1 2 1 77)
sends_image = refl

abbrev installed : World
installed = deliver 11 snap_sent

installs : told 3 installed ≡ (Follower, (1, (2, 2)))
installs = refl

answers_image : slice_get installed.sent 11 ≡ Some (1, mail.InstallRep 1 3 2)
answers_image = refl
