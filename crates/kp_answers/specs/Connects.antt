-- What a connect request is answered.
use Rattle.std.specs.Prelude.{◌≡◌, ◌⊎◌, ◌↔◌, ◌<◌, ℕ, ℤ, pos, negsuc, zero, suc, Bool, true, false, List, Option, Some, is_some, if◌then◌else◌}
use Rattle.std.specs.FinMap as map
use Rattle.kp_model.specs.Limits.{last_number}
use Rattle.kp_event.specs.declared.event.NodeEventKind.TheVariants as kind
use Rattle.kp_wire.specs.declared.connect.ConnectRequest.{ConnectRequest}
use Rattle.kp_conn.specs.declared.phase.Phase.TheVariants as phase
use Rattle.kp_conn.specs.Connection.{Connection, closed, put}
use Rattle.kp_conn.specs.Packets.{connect_packet}
use Rattle.kp_conn.specs.Fed.{fed}
use Rattle.kp_step.specs.declared.seat.Seat.{Seat}
use Rattle.kp_step.specs.Choices.{Choices}
use Rattle.kp_step.specs.Node.{Node, Images}
use Rattle.kp_step.specs.Handing.{is_passwd, is_refused, refusal, is_led, ground, desk}
use Rattle.kp_step.specs.Tables.{seated}
use Rattle.kp_step.specs.Asking.{Words}
use Rattle.kp_step.specs.Step.{step}

-- below 0 or above 2^62, or another than 0 with what is no password of 16 bytes
abbrev pub IsNoNumber : Option (List ℕ) → ℤ → Type 0
IsNoNumber passwd (negsuc n) = Unit {0}
IsNoNumber passwd (pos zero) = ⊥
IsNoNumber passwd (pos (suc n)) = (last_number < suc n) ⊎ (is_passwd passwd ≡ false)

abbrev pub RefusedByNumber : Type 0
RefusedByNumber = (q : ConnectRequest) → (is_refused q ≡ true) ↔ IsNoNumber q.passwd q.session

-- the connection behind its connect request: one that is refused is told session 0, and over; where no leader is known it is over and told nothing; else it waits, and is told nothing yet
abbrev pub behind_connect : Bool → Bool → ConnectRequest → Connection → Connection
behind_connect refused led q c = if refused then closed false (put (connect_packet (refusal (is_some q.read_only))) c) else (if led then c else closed false c)

-- of each step of each node that takes the bytes of a new connection which end its connect request
abbrev pub ConnectsAreAnswered : Type 0 → Type 0
ConnectsAreAnswered I = (words : Words) (im : Images I) (ch : Choices) (x : Node) (now k : ℕ) (bytes : List ℕ) (s : Seat) (q : ConnectRequest) → map.get x.seats k ≡ Some s → s.connection.phase ≡ phase.Fresh → (fed s.connection bytes).1.connect ≡ Some q
    → map.get (step {I = I} words im ch x (record { now = now; kind = kind.Client k bytes })).node.seats k ≡ Some (seated s (behind_connect (is_refused q) (is_led (ground now x.state x) (desk x)) q (fed s.connection bytes).0))
