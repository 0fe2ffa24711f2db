-- What is found before an entry is applied, so that behind it nothing may fail.
use Rattle.std.specs.Prelude.{◌≡◌, ◌<◌, ◌^◌, ℕ, nat_eq, Bool, true, false, List, length, Option, Some, None, if◌then◌else◌}
use Rattle.std.specs.List.{list_any}
use Rattle.std.specs.List.Sorted.{IsStrictlySortedBy}
use Rattle.std.specs.Ordering.{nat_cmp}
use Rattle.std.specs.FinMap as map
use Rattle.kp_model.specs.declared.entry.Body.{Body}
use Rattle.kp_model.specs.declared.entry.Body.TheVariants as body
use Rattle.kp_model.specs.declared.reply.Event.{Event}
use Rattle.kp_model.specs.declared.reply.Reply.{Reply}
use Rattle.kp_model.specs.State.{Sessions}
use Rattle.kp_model.specs.Taken.{is_stale}
use Rattle.kp_seats.specs.Seating.{Seating}
use Rattle.kp_seats.specs.Serving.{IsServer}
use Rattle.kp_watch.specs.declared.watch.Fired.{Fired}
use Rattle.kp_watch.specs.declared.watch.Watch.{Watch}
use Rattle.kp_watch.specs.Watching.{fired, shown, somes}
use Rattle.kp_conn.specs.declared.phase.Phase.{Phase}
use Rattle.kp_conn.specs.declared.phase.Phase.TheVariants as phase
use Rattle.kp_step.specs.declared.seat.Seat.{Seat}
use Rattle.kp_step.specs.Node.{Seats}
use Rattle.kp_step.specs.Committing.{newcomer}
use Rattle.kp_node.specs.declared.prospects.Among.{Among}
use Rattle.kp_node.specs.declared.prospects.Prospect.{Prospect}
use Rattle.kp_node.specs.declared.welcoming.Welcome.{Welcome}
use Rattle.kp_node.specs.Changing.{idle_among, lost_among}
use Rattle.kp_node.specs.Concerned.{HasConcerned, subject, IsSubject}
use Rattle.kp_node.specs.Informing.{IsAnswerIn}
use Rattle.kp_node.specs.Welcoming.{welcome_by}

-- the connection that an entry is for, unless the entry came too late
abbrev pub newcomer_by : ℕ → ℕ → Body → Reply → Option ℕ
newcomer_by me boot b r = if is_stale r then None else newcomer me boot b

-- whether it is a write
abbrev pub is_write : Body → Bool
is_write body.Noop = false
is_write (body.OpenSession timeout passwd o) = false
is_write (body.Attach session passwd o) = false
is_write (body.Expire session) = false
is_write (body.Write session epoch seq c) = true

-- whether a connection waits for the reply to its connect request
abbrev pub is_connecting : Phase → Bool
is_connecting phase.Fresh = false
is_connecting (phase.Connecting ro) = true
is_connecting (phase.Live s e n) = false
is_connecting (phase.Closing lost) = false

abbrev pub waits_at : Option Seat → Bool
waits_at None = false
waits_at (Some s) = is_connecting s.connection.phase

-- the connection of this number, if it waits so
abbrev pub guest_in : Seats → Option ℕ → Option ℕ
guest_in seats None = None
guest_in seats (Some k) = if waits_at (map.get seats k) then Some k else None

-- whether it is among those that hear
abbrev pub hears_in : Option ℕ → List Fired → Bool
hears_in None fs = false
hears_in (Some k) fs = list_any (λ (f : Fired). nat_eq k f.conn) fs

-- by the index, nobody else serves the session that the guest gets but the connection of the entry's session
abbrev pub IsAlone : Seating Seat → Option ℕ → Option Welcome → Option ℕ → Type 0
IsAlone t None w server = Unit {0}
IsAlone t (Some k) None server = Unit {0}
IsAlone t (Some k) (Some w) server = IsServer t.sessions w.id server

-- the connections that an entry may change, and how they stand before it
pub record IsAmong (seats : Seats) (fs : List Fired) (server guest : Option ℕ) (a : Among) : Type 0 where
  pub sorted : IsStrictlySortedBy nat_cmp a.conns.items
  pub all : HasConcerned fs server guest a.conns.items
  pub few : length a.conns.items < 2 ^ 32
  pub idle : a.idle.items ≡ idle_among seats a.conns.items
  pub lost : a.lost ≡ length (lost_among seats a.conns.items)

-- all that is found
pub record IsProspect (me boot : ℕ) (m : Sessions) (t : Seating Seat) (ws : List Watch) (b : Body) (r : Reply) (es : List Event) (a : Prospect) : Type 0 where
  pub shown : shown es a.fired.items ≡ somes (fired ws es).pairs
  pub server : IsSubject t (subject b) a.server
  pub guest : a.guest ≡ guest_in t.seats (newcomer_by me boot b r)
  pub unheard : hears_in a.guest a.fired.items ≡ false
  pub alone : IsAlone t a.guest a.welcome a.server
  pub among : IsAmong t.seats a.fired.items a.server a.guest a.among
  pub answer : IsAnswerIn b r a.answer t.seats
  pub welcome : a.welcome ≡ welcome_by m b r
