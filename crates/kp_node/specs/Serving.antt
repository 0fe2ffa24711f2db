-- What was read of a live connection is served in two parts: its requests join, and then what can be answered is.
use Rattle.std.specs.Prelude.{◌≡◌, ◌++◌, ℕ, true, List, [], ◌∷◌, map, Option, if◌then◌else◌}
use Rattle.kp_model.specs.declared.entry.Body.{Body}
use Rattle.kp_model.specs.State.{State}
use Rattle.kp_model.specs.Store.{Store}
use Rattle.kp_entry.specs.declared.record.Record.{Record}
use Rattle.kp_entry.specs.Held.{replay}
use Rattle.kp_raft.specs.declared.mail.Mail.{Mail}
use Rattle.kp_raft.specs.declared.mail.Mail.TheVariants as mail
use Rattle.kp_raft.specs.Members.{Member, running_of}
use Rattle.kp_snapshot.specs.Snapshots.{Snapshot}
use Rattle.kp_wire.specs.declared.request.Request.{Request}
use Rattle.kp_watch.specs.declared.watch.Watch.{Watch}
use Rattle.kp_watch.specs.Watching.{dropped}
use Rattle.kp_conn.specs.declared.fed.Fed.{Fed}
use Rattle.kp_conn.specs.declared.fed.FedEnd.{FedEnd}
use Rattle.kp_conn.specs.Connection.{Connection, closed, is_lost}
use Rattle.kp_step.specs.Choices.{Luck}
use Rattle.kp_step.specs.Settling.{settled}
use Rattle.kp_step.specs.Handing as step
use Rattle.kp_step.specs.Handing.{served, ended_by}
use Rattle.kp_node.specs.Deciding.{kept_watches}
use Rattle.kp_node.specs.declared.joining.Ground.{Ground}
use Rattle.kp_node.specs.declared.serving.Handed.{Handed}
use Rattle.kp_node.specs.Joining.{IsJoined, ground_in, desk_of}
use Rattle.kp_node.specs.Proposing.{AtDesk, entries_of, proposed_to}

-- by some luck this is what was read of the connection, served
abbrev pub IsServed : step.Ground → ℕ → List Watch → Connection → step.Desk → Fed → List Watch → Connection → step.Desk → Type 0
IsServed g k ws c d f ws' c' d' = (luck : Luck) × let w = served g luck k ws c d f in ((c' ≡ w.connection) × (d' ≡ w.desk) × (ws' ≡ kept_watches k c'.phase w.watches))

-- a connection that was given up keeps nothing that waits
abbrev pub IsEmptied : Connection → Type 0
IsEmptied c = is_lost c.phase ≡ true → c.queue ≡ []

-- by some luck a connection whose requests joined is settled, and what is no frame ends it; one that was given up stays
abbrev pub IsFinished : State → ℕ → FedEnd → List Watch → Connection → List Watch → Connection → Type 0
IsFinished s k end ws c ws' c' = (n : Option ℕ) × let r = settled s k n ws c c.queue in ((c' ≡ ended_by end r.connection) × (ws' ≡ (if is_lost c.phase then ws else kept_watches k c'.phase r.watches)))

-- both parts are the whole
abbrev pub PartsServe : Type 0
PartsServe = (g : step.Ground) (k : ℕ) (ws mid ws' : List Watch) (c here c' : Connection) (d d' : step.Desk) (f : Fed)
    → IsJoined g c d f.requests here d' → IsEmptied here → mid ≡ (if is_lost here.phase then dropped ws k else ws)
    → IsFinished g.state k f.end mid here ws' c'
    → IsServed g k ws c d f ws' c' d'

-- where requests joined, and what they hand in finds no memory, the connection may be given up, and nothing was handed in
abbrev pub GivenUpServes : Type 0
GivenUpServes = (g : step.Ground) (k : ℕ) (ws : List Watch) (c here : Connection) (d mid : step.Desk) (f : Fed) (q : Request) (qs : List Request)
    → f.requests ≡ q ∷ qs → IsJoined g c d f.requests here mid
    → IsServed g k ws c d f (dropped ws k) (closed true here) d

-- ---- with what was handed in

-- a body on its way to the leader
abbrev pub sent_to : Ground → Body → ℕ × Mail Snapshot
sent_to g b = (g.leader, mail.Forward g.term g.me b)

-- Raft did what it makes of the proposal of these bodies, of which it is asked for nothing where there are none
pub record Proposes (m : Member) (now : ℕ) (bs : List Body) (rs : List Record) (n : Member) : Type 0 where
  pub records : rs ≡ (proposed_to m now bs).records
  pub node : n.node ≡ m.node
  pub members : n.members ≡ m.members
  pub held : n.held ≡ replay m.held (proposed_to m now bs).records
  pub running : running_of n ≡ (proposed_to m now bs).running

-- bodies went to Raft, and others became mail
pub record HandsOver (g : Ground) (m : Member) (bs fs : List Body) (o : Handed) (n : Member) : Type 0 where
  pub raft : Proposes m g.now bs o.records n
  pub mail : o.mail ≡ map (sent_to g) fs

-- what was read of live connection k was served, and what was handed in went to Raft, into the storage and into mail
pub record Serves (g : Ground) (k : ℕ) (f : Fed) (m : Member) (x : Store) (ws : List Watch) (c : Connection) (n : Member) (y : Store) (ws' : List Watch) (c' : Connection) (o : Handed) : Type 0 where
  pub desk : step.Desk
  pub served : IsServed (ground_in g x.state) k ws c (desk_of x [] []) f ws' c' desk
  pub over : HandsOver g m desk.bodies desk.forwards o n
  pub store : y ≡ record x { unapplied = x.unapplied ++ entries_of g.term g.now desk.bodies }
  pub at : AtDesk x g.term g.now y desk.bodies desk
