-- What the bytes of a connection make: its requests join the queue, its writes are handed in, and what can be answered is.
use Rattle.std.specs.Prelude.{ℕ, zero, suc, ℤ, pos, negsuc, ◌-◌, ◌==◌, ◌&&◌, ◌||◌, min, max, not, nat_lt, nat_le, if◌then◌else◌, Bool, true, false, List, [], ◌∷◌, ◌++◌, length, replicate, Option, Some, None, is_some, unwrap_or}
use Rattle.kp_model.specs.declared.command.Cmd.{Cmd}
use Rattle.kp_model.specs.declared.entry.Body.{Body}
use Rattle.kp_model.specs.declared.entry.Body.TheVariants as body
use Rattle.kp_model.specs.declared.session.Origin.{Origin}
use Rattle.kp_model.specs.declared.session.Session.{Session}
use Rattle.kp_model.specs.Limits.{last_number}
use Rattle.kp_model.specs.State.{State}
use Rattle.kp_model.specs.Step.{apply}
use Rattle.kp_model.specs.Taken.{would_take}
use Rattle.kp_wire.specs.declared.connect.ConnectRequest.{ConnectRequest}
use Rattle.kp_wire.specs.declared.connect.ConnectReply.{ConnectReply}
use Rattle.kp_wire.specs.declared.request.Request.{Request}
use Rattle.kp_ask.specs.Asks.{command}
use Rattle.kp_watch.specs.declared.watch.Watch.{Watch}
use Rattle.kp_conn.specs.declared.fed.Fed.{Fed}
use Rattle.kp_conn.specs.declared.fed.FedEnd.{FedEnd}
use Rattle.kp_conn.specs.declared.fed.FedEnd.TheVariants as ends
use Rattle.kp_conn.specs.declared.phase.Phase.{Phase}
use Rattle.kp_conn.specs.declared.phase.Phase.TheVariants as phase
use Rattle.kp_conn.specs.declared.waiting.Waiting.{Waiting}
use Rattle.kp_conn.specs.Connection.{Connection, closed, joined, opened, put, is_over}
use Rattle.kp_conn.specs.Fed.{fed}
use Rattle.kp_step.specs.Choices.{Luck, is_out, less}
use Rattle.kp_step.specs.Settling.{Told, Settled, settled}
use Rattle.kp_step.specs.Node.{Node, latest, last, leads}

-- ---- what the connections of a step share

-- what stays the same throughout a step
pub record Ground : Type 0 where
  pub me : ℕ
  pub boot : ℕ
  pub term : ℕ
  pub leader : ℕ
  pub leads : Bool
  pub now : ℕ
  -- the committed state on which questions are answered
  pub state : State

-- what was handed in so far
pub record Desk : Type 0 where
  -- the uncommitted state behind it
  pub latest : State
  -- how many more entries the log takes
  pub room : ℕ
  -- the bodies that the leader appends, and those that are sent to it
  pub bodies : List Body
  pub forwards : List Body

-- the ground of a step in which this is the committed state
abbrev pub ground : ℕ → State → Node → Ground
ground now s x = record { me = x.me; boot = x.boot; term = x.held.term; leader = x.running.leader; leads = leads x; now = now; state = s }

-- nothing was handed in
abbrev pub desk : Node → Desk
desk x = record { latest = latest x; room = last_number - last x; bodies = []; forwards = [] }

-- the leader takes a body that is not too late behind those before it, where the log has room
unfoldable pub proposed : ℕ → ℕ → Desk → Body → Desk
proposed term now d b =
    if nat_lt 0 d.room && would_take d.latest b then record d { latest = (apply d.latest (record { term = term; time = now; body = b })).state; room = d.room - 1; bodies = d.bodies ++ b ∷ [] }
    else d

unfoldable pub proposed_all : ℕ → ℕ → Desk → List Body → Desk
proposed_all term now d [] = d
proposed_all term now d (b ∷ bs) = proposed_all term now (proposed term now d b) bs

-- a body of an own client: the leader takes it, another member sends it to the leader
unfoldable pub handed : Ground → Desk → Body → Desk
handed g d b = if g.leads then proposed g.term g.now d b else record d { forwards = d.forwards ++ b ∷ [] }

-- whether a leader is known; one whose log is full leads no more
abbrev pub is_led : Ground → Desk → Bool
is_led g d = not (g.leader == 0) && (not g.leads || nat_lt 0 d.room)

-- ---- requests of a live connection

-- a connection behind its requests, what was handed in, and the requests that joined its queue
pub record Joined : Type 0 where
  pub connection : Connection
  pub desk : Desk
  pub took : List Request

abbrev pub joined_so : Connection → Desk → Joined
joined_so c d = record { connection = c; desk = d; took = [] }

abbrev pub unnumbered : Request → Waiting
unnumbered q = record { request = q; mark = None; reply = None }

abbrev pub numbered : Request → ℕ → ℕ → Waiting
numbered q n term = record { request = q; mark = Some (record { seq = n; term = term }); reply = None }

-- a write of a session in its epoch, with its next number: it is handed in where a leader is known and the number is none too great
abbrev pub joined_write : Ground → Connection → Desk → Request → Cmd → Phase → Joined
joined_write g c d q w (phase.Live s e n) =
    if is_led g d && nat_le n last_number then joined_so (joined (numbered q n g.term) c) (handed g d (body.Write s e n w))
    else joined_so (joined (unnumbered q) c) d
joined_write g c d q w p = joined_so (joined (unnumbered q) c) d

abbrev pub joined_as : Ground → Connection → Desk → Request → Option Cmd → Joined
joined_as g c d q None = joined_so (joined (unnumbered q) c) d
joined_as g c d q (Some w) = joined_write g c d q w c.phase

unfoldable pub joined_one : Ground → Connection → Desk → Request → Joined
joined_one g c d q = joined_as g c d q (command q.ask)

abbrev pub taking : Request → Joined → Joined
taking q j = record j { took = q ∷ j.took }

-- requests join one after another; where one finds no memory, the connection is given up
unfoldable pub joined_all : Ground → Option ℕ → Connection → Desk → List Request → Joined
joined_all g n c d [] = joined_so c d
joined_all g n c d (q ∷ qs) =
    if is_out n then joined_so (closed true c) d
    else taking q (joined_all g (less n) (joined_one g c d q).connection (joined_one g c d q).desk qs)

-- what the bytes of a connection made
pub record Served : Type 0 where
  pub connection : Connection
  pub desk : Desk
  pub watches : List Watch
  pub told : List Told
  pub took : List Request

abbrev pub served_so : Connection → Desk → List Watch → Served
served_so c d ws = record { connection = c; desk = d; watches = ws; told = []; took = [] }

-- a frame that is none ends the connection
abbrev pub ended_by : FedEnd → Connection → Connection
ended_by ends.Ok c = c
ended_by (ends.Word w) c = c
ended_by (ends.Bad at) c = if is_over c.phase then c else closed false c

abbrev pub behind_join : Joined → FedEnd → Settled → Served
behind_join j end s = record { connection = ended_by end s.connection; desk = j.desk; watches = s.watches; told = s.told; took = j.took }

abbrev pub join_answers : Ground → Option ℕ → ℕ → List Watch → Joined → Settled
join_answers g n k ws j = settled g.state k n ws j.connection j.connection.queue

-- what was read of live connection k
unfoldable pub served : Ground → Luck → ℕ → List Watch → Connection → Desk → Fed → Served
served g luck k ws c d f = behind_join (joined_all g luck.requests c d f.requests) f.end (join_answers g luck.answers k ws (joined_all g luck.requests c d f.requests))

-- ---- the connect request

-- the reply to a connect that is refused
abbrev pub refusal : Bool → ConnectReply
refusal with_read_only = record { timeout = 0; session = 0; passwd = replicate 16 0; with_read_only = with_read_only }

abbrev pub is_passwd : Option (List ℕ) → Bool
is_passwd None = false
is_passwd (Some p) = length p == 16

-- a session number below 0 or above 2^62, or another than 0 with what is no password
abbrev pub is_refused_number : Option (List ℕ) → ℤ → Bool
is_refused_number passwd (negsuc n) = true
is_refused_number passwd (pos zero) = false
is_refused_number passwd (pos (suc n)) = nat_lt last_number (suc n) || not (is_passwd passwd)

abbrev pub is_refused : ConnectRequest → Bool
is_refused q = is_refused_number q.passwd q.session

-- a timeout is held between 10 and 100 seconds
abbrev pub held_timeout : ℤ → ℕ
held_timeout (negsuc n) = 10000
held_timeout (pos n) = min (max n 10000) 100000

abbrev pub origin : Ground → ℕ → Origin
origin g k = record { node = g.me; boot = g.boot; conn = k }

-- session 0 asks for a new one, whose password is the connection's draw
abbrev pub opening_of : Origin → List ℕ → ConnectRequest → ℤ → Body
opening_of o draw q (pos zero) = body.OpenSession (held_timeout q.timeout) draw o
opening_of o draw q (pos (suc n)) = body.Attach (suc n) (unwrap_or q.passwd []) o
opening_of o draw q (negsuc n) = body.Noop

abbrev pub opening : Origin → List ℕ → ConnectRequest → Body
opening o draw q = opening_of o draw q q.session

-- it is refused, or ends where no leader is known, or it is handed in
abbrev pub connects : Ground → ℕ → List ℕ → Connection → Desk → List Watch → ConnectRequest → Served
connects g k draw c d ws q =
    if is_refused q then served_so (opened (refusal (is_some q.read_only)) 0 c) d ws
    else (if is_led g d then served_so c (handed g d (opening (origin g k) draw q)) ws
    else served_so (closed false c) d ws)

-- what was read of a connection that isn't live: a connect request, a word, what is neither, or nothing whole
abbrev pub first_served : Ground → ℕ → List ℕ → (List ℕ → List ℕ) → Connection → Desk → List Watch → Option ConnectRequest → FedEnd → Served
first_served g k draw text c d ws (Some q) end = connects g k draw c d ws q
first_served g k draw text c d ws None ends.Ok = served_so c d ws
first_served g k draw text c d ws None (ends.Bad at) = served_so (closed false c) d ws
first_served g k draw text c d ws None (ends.Word w) = served_so (closed false (put (text w) c)) d ws

abbrev pub served_as : Ground → Luck → ℕ → List ℕ → (List ℕ → List ℕ) → Desk → List Watch → Phase → Connection → Fed → Served
served_as g luck k draw text d ws (phase.Live s e n) c f = served g luck k ws c d f
served_as g luck k draw text d ws p c f = first_served g k draw text c d ws f.connect f.end

-- connection k takes bytes
unfoldable pub serves : Ground → Luck → ℕ → List ℕ → (List ℕ → List ℕ) → Desk → List Watch → Connection → List ℕ → Served
serves g luck k draw text d ws c bytes = served_as g luck k draw text d ws c.phase (fed c bytes).0 (fed c bytes).1

-- ---- the reply to a connect request

abbrev pub greeting : Bool → ℕ → Session → ConnectReply
greeting with_read_only id x = record { timeout = x.timeout; session = id; passwd = x.passwd; with_read_only = with_read_only }

-- the connection is live and takes the bytes that it kept
abbrev pub welcomed : Ground → Luck → ℕ → List Watch → Desk → Connection → Served
welcomed g luck k ws d c = served g luck k ws (fed c []).0 d (fed c []).1

-- the connection serves the session that its connect request got, or is refused
abbrev pub greeted_as : Ground → Luck → ℕ → List Watch → Desk → Connection → Bool → ℕ → Option Session → Served
greeted_as g luck k ws d c ro id None = served_so (opened (refusal ro) 0 c) d ws
greeted_as g luck k ws d c ro id (Some x) = welcomed g luck k ws d (opened (greeting ro id x) x.epoch c)
