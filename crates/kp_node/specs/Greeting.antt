-- The connection that waits for the reply to its connect request is greeted, and what it kept is read.
use Rattle.std.specs.Prelude.{◌≡◌, ℕ, Bool, List, [], Option, Some, None}
use Rattle.kp_model.specs.State.{State}
use Rattle.kp_wire.specs.declared.connect.ConnectReply.{ConnectReply}
use Rattle.kp_watch.specs.declared.watch.Watch.{Watch}
use Rattle.kp_conn.specs.declared.fed.Fed.{Fed}
use Rattle.kp_conn.specs.declared.phase.Phase.{Phase}
use Rattle.kp_conn.specs.declared.phase.Phase.TheVariants as phase
use Rattle.kp_conn.specs.Connection.{Connection, opened}
use Rattle.kp_conn.specs.Fed.{fed}
use Rattle.kp_step.specs.declared.seat.Seat.{Seat}
use Rattle.kp_step.specs.Choices.{Luck}
use Rattle.kp_step.specs.Handing as step
use Rattle.kp_step.specs.Handing.{refusal, Served, served, served_so, greeted_as}
use Rattle.kp_step.specs.Committing.{session_at, number_in}
use Rattle.kp_step.specs.Tables.{seated}
use Rattle.kp_node.specs.declared.welcoming.Welcome.{Welcome}
use Rattle.kp_node.specs.Welcoming.{welcome_in}

-- the reply to a connect request that got this session
abbrev pub reply_with : Bool → Welcome → ConnectReply
reply_with ro w = record { timeout = w.timeout; session = w.id; passwd = w.passwd; with_read_only = ro }

-- a connection that waits is refused, or serves the session, and this is read of what it kept; any other stays
abbrev pub Greets : Phase → Option Welcome → Option Fed → Connection → Connection → Type 0
Greets (phase.Connecting ro) None f c c' = (c' ≡ opened (refusal ro) 0 c) × (f ≡ None)
Greets (phase.Connecting ro) (Some w) f c c' = (g : Fed) × ((f ≡ Some g) × (fed (opened (reply_with ro w) w.epoch c) [] ≡ (c', g)))
Greets p w f c c' = (c' ≡ c) × (f ≡ None)

abbrev pub SeatGreets : Option Welcome → Option Fed → ℕ → Seat → Seat → Type 0
SeatGreets w f k s s' = (c : Connection) × ((s' ≡ seated s c) × Greets s.connection.phase w f s.connection c)

-- what was read of it is served
abbrev pub served_if : step.Ground → Luck → ℕ → List Watch → Connection → step.Desk → Option Fed → Served
served_if g luck k ws c d None = served_so c d ws
served_if g luck k ws c d (Some f) = served g luck k ws c d f

-- so greeting, and serving what was read, is the definition's greeting
abbrev pub GreetingIsDefined : Type 0
GreetingIsDefined = (g : step.Ground) (luck : Luck) (k : ℕ) (ws : List Watch) (d : step.Desk) (c c' : Connection) (ro : Bool) (s : State) (id : Option ℕ) (f : Option Fed)
    → Greets (phase.Connecting ro) (welcome_in id (session_at s id)) f c c' → greeted_as g luck k ws d c ro (number_in id) (session_at s id) ≡ served_if g luck k ws c' d f
