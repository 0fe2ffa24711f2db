-- The connection that waits for an entry is greeted, and stands aside while the others are told of the entry.
use Rattle.std.specs.Prelude.{◌≡◌, ℕ, List, [], Option, Some, None}
use Rattle.std.specs.FinMap as map
use Rattle.kp_model.specs.Store.{Store}
use Rattle.kp_raft.specs.Members.{Member}
use Rattle.kp_seats.specs.Seating.{Seating, holding, roomy, joined}
use Rattle.kp_watch.specs.declared.watch.Watch.{Watch}
use Rattle.kp_conn.specs.declared.fed.Fed.{Fed}
use Rattle.kp_conn.specs.Connection.{Connection, blank}
use Rattle.kp_step.specs.declared.seat.Seat.{Seat}
use Rattle.kp_step.specs.Tables.{seated}
use Rattle.kp_node.specs.declared.guests.Guest.{Guest}
use Rattle.kp_node.specs.declared.joining.Ground.{Ground}
use Rattle.kp_node.specs.declared.serving.Handed.{Handed}
use Rattle.kp_node.specs.declared.welcoming.Welcome.{Welcome}
use Rattle.kp_node.specs.Greeting.{Greets}
use Rattle.kp_node.specs.Holding.{served_by}
use Rattle.kp_node.specs.Serving.{Serves}

-- another connection stands at the place, if there is one
abbrev pub swapped : Seating Seat → ℕ → Connection → Option Seat → Seating Seat
swapped t k c None = t
swapped t k c (Some s) = holding t k (seated s c)

-- the one that stood there
abbrev pub conn_in : Connection → Option Seat → Connection
conn_in c None = c
conn_in c (Some s) = s.connection

-- the connection of a seat was greeted, and a new one stands at its place
pub record IsAside (w : Option Welcome) (k : ℕ) (t : Seating Seat) (g : Guest) (u : Seating Seat) : Type 0 where
  pub number : g.number ≡ k
  pub greets : (s : Seat) → map.get t.seats k ≡ Some s → Greets s.connection.phase w g.fed s.connection g.conn
  pub seats : (s : Seat) → map.get t.seats k ≡ Some s → u ≡ holding t k (seated s blank)

-- a guest stands aside, where there is one, and there is room for its session
abbrev pub IsLetIn : Option Welcome → Seating Seat → Option ℕ → Option Guest → Seating Seat → Type 0
IsLetIn w t None None u = u ≡ t
IsLetIn w t None (Some g) u = ⊥
IsLetIn w t (Some k) None u = ⊥
IsLetIn w t (Some k) (Some g) u = IsAside w k (roomy t) g u

-- ---- back at its place

-- nothing was handed in
abbrev pub none_handed : Handed
none_handed = record { records = []; mail = [] }

-- what was read of it is served, if anything was
abbrev pub ServesSome : Ground → ℕ → Option Fed → Member → Store → List Watch → Connection → Member → Store → List Watch → Connection → Handed → Type 0
ServesSome g k None m x ws c n y ws' c' o = ((n ≡ m) × (y ≡ x)) × ((ws' ≡ ws) × (c' ≡ c)) × (o ≡ none_handed)
ServesSome g k (Some f) m x ws c n y ws' c' o = Serves g k f m x ws c n y ws' c' o

-- the connection serves its session by the index, if it serves one
abbrev pub joined_if : Option ℕ → ℕ → Seating Seat → Seating Seat
joined_if None k t = t
joined_if (Some session) k t = joined t k session

-- a guest was served, and stands at its place again
pub record IsSeated (g : Ground) (q : Guest) (m : Member) (x : Store) (ws : List Watch) (t : Seating Seat) (n : Member) (y : Store) (ws' : List Watch) (u : Seating Seat) (o : Handed) : Type 0 where
  pub conn : Connection
  pub served : ServesSome g q.number q.fed m x ws q.conn n y ws' conn o
  pub seats : u ≡ joined_if (served_by conn.phase) q.number (swapped t q.number conn (map.get t.seats q.number))
