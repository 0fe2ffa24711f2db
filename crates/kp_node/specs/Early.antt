-- Connections that aren't live take bytes, in their places among the others.
use Rattle.std.specs.Prelude.{◌≡◌, ℕ, false, List, Option, Some, None}
use Rattle.std.specs.FinMap as map
use Rattle.kp_model.specs.Store.{Store}
use Rattle.kp_raft.specs.Members.{Member}
use Rattle.kp_seats.specs.Seating.{Seating, holding}
use Rattle.kp_watch.specs.declared.watch.Watch.{Watch}
use Rattle.kp_conn.specs.declared.fed.FedEnd.TheVariants as ends
use Rattle.kp_conn.specs.declared.phase.Phase.TheVariants as phase
use Rattle.kp_conn.specs.Connection.{Connection}
use Rattle.kp_step.specs.declared.seat.Seat.{Seat}
use Rattle.kp_step.specs.Tables.{seated}
use Rattle.kp_node.specs.declared.first_bytes.First.{First}
use Rattle.kp_node.specs.declared.first_bytes.First.TheVariants as first
use Rattle.kp_node.specs.declared.joining.Ground.{Ground}
use Rattle.kp_node.specs.Clients.{TakesAt}
use Rattle.kp_node.specs.FirstBytes.{IsFirst, is_word, TakesFirst}
use Rattle.kp_node.specs.TakingBytes.{end_in}

-- there is one that isn't live and isn't over
abbrev pub IsFirstAt : Option Seat → Type 0
IsFirstAt None = ⊥
IsFirstAt (Some s) = IsFirst s.connection.phase

-- a seat that took bytes, with its own draw
pub record SeatTakesFirst (g : Ground) (k : ℕ) (bytes : List ℕ) (m : Member) (x : Store) (s : Seat) (n : Member) (y : Store) (s' : Seat) (f : First) : Type 0 where
  pub draw : s'.draw ≡ s.draw
  pub takes : TakesFirst g k s.draw bytes m x s.connection n y s'.connection f

-- that of connection k did, among the others
pub record FirstAmong (g : Ground) (k : ℕ) (bytes : List ℕ) (m : Member) (x : Store) (t : Seating Seat) (n : Member) (y : Store) (t' : Seating Seat) (f : First) : Type 0 where
  pub was : Seat
  pub there : map.get t.seats k ≡ Some was
  pub early : IsFirst was.connection.phase
  pub is : Seat
  pub seat : SeatTakesFirst g k bytes m x was n y is f
  pub seating : t' ≡ holding t k is

-- what connection k, which is new, has with these bytes is a word
pub record IsWordAt (t : Seating Seat) (k : ℕ) (bytes w : List ℕ) : Type 0 where
  pub was : Seat
  pub there : map.get t.seats k ≡ Some was
  pub fresh : was.connection.phase ≡ phase.Fresh
  pub end : end_in was.connection bytes ≡ ends.Word w

-- connection k has a word, and nothing has changed, or it took the bytes
abbrev pub FirstAt : Ground → ℕ → List ℕ → Member → Store → Seating Seat → Member → Store → Seating Seat → First → Type 0
FirstAt g k bytes m x t n y t' (first.Word w) = IsWordAt t k bytes w × ((n ≡ m) × ((y ≡ x) × (t' ≡ t)))
FirstAt g k bytes m x t n y t' (first.Taken o) = (is_word o.end ≡ false) × ((text : List ℕ → List ℕ) (ws : List Watch) → TakesAt g k text bytes m x ws t n y ws t' o)

-- the connection of number k, if it is there, becomes what f makes of it
abbrev pub changed_by : (Connection → Connection) → Seating Seat → ℕ → Option Seat → Seating Seat
changed_by f t k None = t
changed_by f t k (Some s) = holding t k (seated s (f s.connection))

abbrev pub conn_changed : (Connection → Connection) → Seating Seat → ℕ → Seating Seat
conn_changed f t k = changed_by f t k (map.get t.seats k)
