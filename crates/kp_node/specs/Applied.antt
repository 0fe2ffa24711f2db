-- What an entry that is applied makes of the parts of a node.
use Rattle.std.specs.Prelude.{◌≡◌, ◌-◌, ℕ, true, false, List, [], Option, Some, None, IsSome, if◌then◌else◌}
use Rattle.std.specs.Ordering.{nat_cmp}
use Rattle.std.specs.FinMap as map
use Rattle.std.specs.FinMap.{FinMap}
use Rattle.kp_model.specs.declared.entry.Body.{Body}
use Rattle.kp_model.specs.LogEntry.{LogEntry}
use Rattle.kp_model.specs.declared.reply.Event.{Event}
use Rattle.kp_model.specs.declared.reply.Reply.{Reply}
use Rattle.kp_model.specs.State.{State, Sessions}
use Rattle.kp_model.specs.Step.{Outcome, apply}
use Rattle.kp_model.specs.Store.{Store}
use Rattle.kp_raft.specs.Members.{Member}
use Rattle.kp_expiry.specs.declared.heard.Heard.{Heard}
use Rattle.kp_seats.specs.Seating.{Seating}
use Rattle.kp_seats.specs.Walked.{IsStep}
use Rattle.kp_watch.specs.declared.watch.Watch.{Watch}
use Rattle.kp_watch.specs.Watching.{fired}
use Rattle.kp_conn.specs.Connection.{is_lost}
use Rattle.kp_step.specs.declared.seat.Seat.{Seat}
use Rattle.kp_step.specs.Choices.{Choices}
use Rattle.kp_step.specs.Handing as step
use Rattle.kp_step.specs.Node.{Seats}
use Rattle.kp_step.specs.Tables.{Table, tabled, with_row}
use Rattle.kp_step.specs.Committing.{Greeting, hears, meaning, greeted, settled_behind, heard_behind}
use Rattle.kp_step.specs.Step.{swept, newly_ready, count_lost}
use Rattle.kp_node.specs.declared.applying.Applied.{Applied}
use Rattle.kp_node.specs.declared.applying.Prepared.{Prepared}
use Rattle.kp_node.specs.declared.guests.Guest.{Guest}
use Rattle.kp_node.specs.declared.joining.Ground.{Ground}
use Rattle.kp_node.specs.declared.serving.Handed.{Handed}
use Rattle.kp_node.specs.Changing.{ChangedAt, AreKeptBut}
use Rattle.kp_node.specs.Ending.{SeatSettles}
use Rattle.kp_node.specs.Guests.{none_handed, IsLetIn, IsSeated}
use Rattle.kp_node.specs.Holding.{served_at}
use Rattle.kp_node.specs.Indexing.{IsServedBut}
use Rattle.kp_node.specs.Joining.{ground_in, desk_of}
use Rattle.kp_node.specs.Meaning.{IsIndexed}
use Rattle.kp_node.specs.Prospects.{is_write, IsProspect}
use Rattle.kp_node.specs.Proposing.{AtDesk}
use Rattle.kp_node.specs.Serving.{HandsOver}
use Rattle.kp_node.specs.Welcoming.{heard_of}

-- ---- the definition, of these parts of a node

-- the connections behind what they hear and what it means for them
abbrev pub told_in : Choices → ℕ → ℕ → Seats → List Watch → Body → Outcome → Table
told_in ch me boot seats ws b o = with_row (meaning ch me boot o.state.applied b o.reply) (with_row (hears ch (fired ws o.events).pairs) (tabled seats (fired ws o.events).left))

-- and behind the greeting
abbrev pub greeted_in : Choices → step.Ground → step.Desk → ℕ → ℕ → Seats → List Watch → Body → Outcome → Greeting
greeted_in ch g d me boot seats ws b o = greeted ch g d (told_in ch me boot seats ws b o) me boot b o.reply

-- and behind the answers
abbrev pub made_in : Choices → step.Ground → step.Desk → ℕ → ℕ → Seats → List Watch → Body → Outcome → Greeting
made_in ch g d me boot seats ws b o = settled_behind ch o.state (greeted_in ch g d me boot seats ws b o)

-- ---- what the code makes

-- the connection whose write may be answered
abbrev pub waits_for : Body → Option ℕ → Option ℕ
waits_for b server = if is_write b then server else None

-- what waits at it is answered on a state, where there is one
abbrev pub SettlesSome : State → List Watch → List Watch → Option ℕ → Seating Seat → Seating Seat → Type 0
SettlesSome s ws ws' None t u = (u ≡ t) × (ws' ≡ ws)
SettlesSome s ws ws' (Some k) t u = IsStep (SeatSettles s ws ws') k t u × (map.get t.seats k ≡ None → ws' ≡ ws)

-- a guest is served and stands at its place again, or its write is answered, where there is one
abbrev pub Finishes : Ground → Option Guest → Option ℕ → Member → Store → List Watch → Seating Seat → Member → Store → List Watch → Seating Seat → Handed → Type 0
Finishes g None waits m x ws t n y ws' u o = ((n ≡ m) × (y ≡ x)) × (SettlesSome x.state ws ws' waits t u × (o ≡ none_handed))
Finishes g (Some q) waits m x ws t n y ws' u o = IsSeated g q m x ws t n y ws' u o

-- a guest's place is there, with room for its session, and it was not given up
abbrev pub MayFinish : Option Guest → Seating Seat → Type 0
MayFinish None t = Unit {0}
MayFinish (Some q) t = (t.has_room ≡ true) × (IsSome (map.get t.seats q.number) × (is_lost q.conn.phase ≡ false))

-- all that may fail is done: the session is heard, and a guest stands aside
pub record IsPrepared (g : Ground) (m : Sessions) (t : Seating Seat) (ws : List Watch) (b : Body) (r : Reply) (es : List Event) (before : FinMap nat_cmp Heard) (a : Prepared) (u : Seating Seat) (behind : FinMap nat_cmp Heard) : Type 0 where
  pub prospect : IsProspect g.me g.boot m t ws b r es a.prospect
  pub seats : IsLetIn a.prospect.welcome t a.prospect.guest a.guest u
  pub heard : behind ≡ heard_of g.now a.prospect.welcome before

-- by some choices the connections and the watches are those of the definition, but for watches of connections that were given up, and for an index that may know some that are over; few connections changed
pub record IsTable (ks : List ℕ) (t : Seating Seat) (made : Greeting) (u : Seating Seat) (ws : List Watch) (d : step.Desk) : Type 0 where
  pub seats : u.seats ≡ made.table.seats
  pub next : u.next ≡ t.next
  pub watches : swept u.seats ws ≡ swept u.seats made.table.watches
  pub desk : d ≡ made.desk
  pub changed : ChangedAt ks t.seats u.seats
  pub kept : AreKeptBut ks u.seats ws
  pub indexed : IsIndexed u
  pub served : IsServedBut ks u

-- the storage behind a committed entry
abbrev pub store_behind : State → List LogEntry → Store
store_behind s es = record { state = s; unapplied = es }

-- the definition, where this is the first of the entries that aren't applied and those are the others
abbrev pub made_of : Choices → Ground → LogEntry → List LogEntry → State → Seats → List Watch → Greeting
made_of ch g e es s seats ws = made_in ch (ground_in g (apply s e).state) (desk_of (store_behind (apply s e).state es) [] []) g.me g.boot seats ws e.body (apply s e)

-- the entry was applied: all parts are those behind it, by some choices
pub record IsApplied (g : Ground) (e : LogEntry) (es : List LogEntry) (m : Member) (x : Store) (t : Seating Seat) (ws : List Watch) (before : FinMap nat_cmp Heard) (a : Applied) (n : Member) (y : Store) (u : Seating Seat) (ws' : List Watch) (behind : FinMap nat_cmp Heard) : Type 0 where
  pub choices : Choices
  pub seats : u.seats ≡ (made_of choices g e es x.state t.seats ws).table.seats
  pub next : u.next ≡ t.next
  pub served : (q : ℕ) → map.get u.sessions q ≡ served_at (map.get u.seats q)
  pub watches : ws' ≡ swept u.seats (made_of choices g e es x.state t.seats ws).table.watches
  pub heard : behind ≡ heard_behind g.now e.body (apply x.state e).reply (apply x.state e).state before
  pub over : HandsOver g m (made_of choices g e es x.state t.seats ws).desk.bodies (made_of choices g e es x.state t.seats ws).desk.forwards a.handed n
  pub at : AtDesk (store_behind (apply x.state e).state es) g.term g.now y (made_of choices g e es x.state t.seats ws).desk.bodies (made_of choices g e es x.state t.seats ws).desk
  pub index : a.index ≡ (apply x.state e).state.applied
  pub ready : a.ready ≡ newly_ready t.seats u.seats
  pub lost : a.lost ≡ count_lost u.seats - count_lost t.seats
