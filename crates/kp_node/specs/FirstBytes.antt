-- The first bytes of a connection: a word, a connect request, what is neither, or nothing whole.
use Rattle.std.specs.Prelude.{◌≡◌, ◌≤◌, ℕ, Bool, true, false, List, [], Option, Some, None}
use Rattle.kp_model.specs.declared.entry.Body.{Body}
use Rattle.kp_model.specs.Limits.{last_number}
use Rattle.kp_model.specs.Store.{Store, last as last_of}
use Rattle.kp_raft.specs.Members.{Member}
use Rattle.kp_wire.specs.declared.connect.ConnectRequest.{ConnectRequest}
use Rattle.kp_conn.specs.declared.fed.FedEnd.{FedEnd}
use Rattle.kp_conn.specs.declared.fed.FedEnd.TheVariants as ends
use Rattle.kp_conn.specs.declared.phase.Phase.{Phase}
use Rattle.kp_conn.specs.declared.phase.Phase.TheVariants as phase
use Rattle.kp_conn.specs.Connection.{Connection}
use Rattle.kp_watch.specs.declared.watch.Watch.{Watch}
use Rattle.kp_step.specs.Handing as step
use Rattle.kp_step.specs.Handing.{Served, handed, connects, first_served}
use Rattle.kp_node.specs.declared.first_bytes.First.{First}
use Rattle.kp_node.specs.declared.first_bytes.First.TheVariants as first
use Rattle.kp_node.specs.declared.joining.Ground.{Ground}
use Rattle.kp_node.specs.declared.serving.Handed.{Handed}
use Rattle.kp_node.specs.declared.taking.Taken.{Taken}
use Rattle.kp_node.specs.Joining.{ground_in, desk_of}
use Rattle.kp_node.specs.Proposing.{AtDesk}
use Rattle.kp_node.specs.Serving.{HandsOver}
use Rattle.kp_node.specs.TakingBytes.{Takes, end_in}

-- what was handed in at this desk went to Raft, into the storage and into mail
pub record Sends (g : Ground) (m : Member) (x : Store) (n : Member) (y : Store) (o : Handed) (d : step.Desk) : Type 0 where
  pub over : HandsOver g m d.bodies d.forwards o n
  pub at : AtDesk x g.term g.now y d.bodies d

-- the desk of a node that hands in one body
abbrev pub opened_by : Ground → Store → Body → step.Desk
opened_by g x b = handed (ground_in g x.state) (desk_of x [] []) b

-- the connection and what was handed in are those of what was served
pub record Makes (g : Ground) (m : Member) (x : Store) (n : Member) (y : Store) (c' : Connection) (o : Handed) (w : Served) : Type 0 where
  pub connection : c' ≡ w.connection
  pub sends : Sends g m x n y o w.desk

-- a connect request is answered
abbrev pub asks_for : Ground → ℕ → List ℕ → Store → List Watch → Connection → ConnectRequest → Served
asks_for g k draw x ws c q = connects (ground_in g x.state) k draw c (desk_of x [] []) ws q

-- what was read of a connection that isn't live is served
abbrev pub reads_first : Ground → ℕ → List ℕ → (List ℕ → List ℕ) → Store → List Watch → Connection → Option ConnectRequest → FedEnd → Served
reads_first g k draw text x ws c q end = first_served (ground_in g x.state) k draw text c (desk_of x [] []) ws q end

abbrev pub is_word : FedEnd → Bool
is_word ends.Ok = false
is_word (ends.Bad at) = false
is_word (ends.Word w) = true

-- a connection that was not heard yet, or waits for its answer
abbrev pub IsFirst : Phase → Type 0
IsFirst phase.Fresh = Unit {0}
IsFirst (phase.Connecting ro) = Unit {0}
IsFirst p = ⊥

-- a new connection took bytes: they are a word, and nothing has changed, or they were taken
abbrev pub TakesFirst : Ground → ℕ → List ℕ → List ℕ → Member → Store → Connection → Member → Store → Connection → First → Type 0
TakesFirst g k draw bytes m x c n y c' (first.Word w) = (end_in c bytes ≡ ends.Word w) × ((n ≡ m) × ((y ≡ x) × (c' ≡ c)))
TakesFirst g k draw bytes m x c n y c' (first.Taken t) = (t.end ≡ end_in c bytes) × ((is_word t.end ≡ false) × ((text : List ℕ → List ℕ) (ws : List Watch) → Takes g k draw text bytes m x ws c n y ws c' t.handed))

-- the word, where the bytes are one
abbrev pub word_in : FedEnd → Option (List ℕ)
word_in ends.Ok = None
word_in (ends.Bad at) = None
word_in (ends.Word w) = Some w

abbrev pub IsConnecting : Phase → Type 0
IsConnecting (phase.Connecting ro) = Unit {0}
IsConnecting p = ⊥

-- one whose connect request waits for its answer kept bytes
abbrev pub TakesWaiting : List ℕ → Connection → Connection → Taken → Type 0
TakesWaiting bytes c c' t = (t.end ≡ end_in c bytes) × ((is_word t.end ≡ false) × ((g : Ground) (k : ℕ) (draw : List ℕ) (text : List ℕ → List ℕ) (m : Member) (x : Store) (ws : List Watch) → last_of x ≤ last_number → Takes g k draw text bytes m x ws c m x ws c' t.handed))
