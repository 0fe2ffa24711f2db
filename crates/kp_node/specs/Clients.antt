-- Bytes of a client come: the step, and what a node's parts become where a connection takes them.
use Rattle.std.specs.Prelude.{◌≡◌, ◌+◌, ℕ, Bool, true, false, List, [], ◌∷◌, length, Option, Some, None, if◌then◌else◌}
use Rattle.std.specs.FinMap as map
use Rattle.kp_model.specs.Store.{Store}
use Rattle.kp_raft.specs.Members.{Member}
use Rattle.kp_raft.specs.Parts.{is_leader}
use Rattle.kp_event.specs.declared.event.NodeEventKind.TheVariants as kind
use Rattle.kp_event.specs.declared.said.Said.TheVariants as says
use Rattle.kp_event.specs.declared.thought.Standing.{Standing}
use Rattle.kp_seats.specs.Seating.{Seating, holding, left}
use Rattle.kp_watch.specs.declared.watch.Watch.{Watch}
use Rattle.kp_conn.specs.Connection.{Connection, is_over}
use Rattle.kp_snapshot.specs.Snapshots.{Snapshot}
use Rattle.kp_step.specs.declared.seat.Seat.{Seat}
use Rattle.kp_step.specs.Choices.{Choices}
use Rattle.kp_step.specs.Node.{Node}
use Rattle.kp_step.specs.Asking.{Words, reacted, installed, client_input}
use Rattle.kp_step.specs.Tables.{seated}
use Rattle.kp_step.specs.Step.{Stepped, together, client_turn, fed_word}
use Rattle.kp_node.specs.declared.client_events.Read.{Read}
use Rattle.kp_node.specs.declared.joining.Ground.{Ground}
use Rattle.kp_node.specs.declared.outcome.Outcome.{Outcome}
use Rattle.kp_node.specs.declared.taking.Taken.{Taken}
use Rattle.kp_node.specs.Changing.{idle_among, ready_among, lost_among}
use Rattle.kp_node.specs.Parts.{Parts}
use Rattle.kp_node.specs.Steps.{images}
use Rattle.kp_node.specs.TakingBytes.{Takes, seated_at, end_in, heard_by, spoken_by}

-- the step of bytes of a client, by what is at the number of its connection
abbrev pub client_at : Words → Choices → Node → ℕ → ℕ → List ℕ → Option Seat → Stepped Snapshot
client_at words ch x now k bytes o = together images ch x (kind.Client k bytes) (reacted x (client_input words ch x now k bytes o)) (installed x (client_input words ch x now k bytes o)) (client_turn words ch x now k bytes o)

abbrev pub client_step : Words → Choices → Node → ℕ → ℕ → List ℕ → Stepped Snapshot
client_step words ch x now k bytes = client_at words ch x now k bytes (map.get x.seats k)

-- nothing is taken where no connection is, or where it is over
abbrev pub takes_none : Option Seat → Bool
takes_none None = true
takes_none (Some s) = is_over s.connection.phase

-- what stays the same while a node with these parts serves its clients in one event
abbrev pub ground_of : Parts → ℕ → Ground
ground_of p now = record { me = p.member.node; boot = p.boot; term = p.member.held.term; leader = p.member.vars.leader; leads = is_leader p.member.vars.role; now = now }

-- ---- a connection takes them

-- a seat takes the bytes, whatever the draw and the words are
pub record SeatTakes (g : Ground) (k : ℕ) (bytes : List ℕ) (m : Member) (x : Store) (ws : List Watch) (s : Seat) (n : Member) (y : Store) (ws' : List Watch) (s' : Seat) (o : Taken) : Type 0 where
  pub draw : s'.draw ≡ s.draw
  pub end : o.end ≡ end_in s.connection bytes
  pub takes : (draw : List ℕ) (text : List ℕ → List ℕ) → Takes g k draw text bytes m x ws s.connection n y ws' s'.connection o.handed

-- that of connection k does, among the others
pub record TakesAmong (g : Ground) (k : ℕ) (bytes : List ℕ) (m : Member) (x : Store) (ws : List Watch) (t : Seating Seat) (n : Member) (y : Store) (ws' : List Watch) (t' : Seating Seat) (o : Taken) : Type 0 where
  pub was : Seat
  pub there : map.get t.seats k ≡ Some was
  pub is : Seat
  pub seat : SeatTakes g k bytes m x ws was n y ws' is o
  pub seating : t' ≡ holding t k is

-- whether a connection is there and is over
abbrev pub is_over_at : Option Seat → Bool
is_over_at None = false
is_over_at (Some s) = is_over s.connection.phase

-- one that is over serves no session
abbrev pub left_over : Option Seat → Seating Seat → ℕ → Seating Seat
left_over o t k = if is_over_at o then left t k else t

-- the connection of number k, which isn't over, takes them in its place among the others
pub record TakesAt (g : Ground) (k : ℕ) (text : List ℕ → List ℕ) (bytes : List ℕ) (m : Member) (x : Store) (ws : List Watch) (t : Seating Seat) (n : Member) (y : Store) (ws' : List Watch) (t' : Seating Seat) (o : Taken) : Type 0 where
  pub was : Seat
  pub there : map.get t.seats k ≡ Some was
  pub stays_open : is_over was.connection.phase ≡ false
  pub after : Connection
  pub takes : Takes g k was.draw text bytes m x ws was.connection n y ws' after o.handed
  pub end : o.end ≡ end_in was.connection bytes
  pub seating : t' ≡ seated_at t k (seated was after)

-- a node took them, by one of its connections
pub record IsFed (now k : ℕ) (text : List ℕ → List ℕ) (bytes : List ℕ) (x : Parts) (r : Read) (y : Parts) : Type 0 where
  pub at : TakesAt (ground_of x now) k text bytes x.member x.store x.watches x.seating y.member y.store y.watches y.seating r.taken
  pub heard : y.heard ≡ heard_by now x.store.state x.heard at.was.connection.phase
  pub spoken : y.spoken ≡ spoken_by x.spoken at.was.connection.phase
  pub boot : y.boot ≡ x.boot
  pub events : y.events ≡ x.events + 1
  pub ready : r.ready ≡ ready_among y.seating.seats (idle_among x.seating.seats (k ∷ []))
  pub lost : r.lost ≡ length (lost_among y.seating.seats (k ∷ []))

-- what is given of it
abbrev pub given_fed : Read → Standing → Outcome
given_fed r standing = record { said = says.Fed (fed_word r.taken.end); records = r.taken.handed.records; image = None; mail = r.taken.handed.mail; cut = None; lost = r.lost; standing = standing; ready = r.ready }
