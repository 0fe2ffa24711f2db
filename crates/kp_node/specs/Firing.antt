-- All connections hear of the events that were fired, by some luck.
use Rattle.std.specs.Prelude.{◌≡◌, ℕ, Bool, List, Option}
use Rattle.std.specs.Option.{option_map}
use Rattle.std.specs.FinMap as map
use Rattle.kp_model.specs.declared.reply.Event.{Event}
use Rattle.kp_conn.specs.Connection.{Connection}
use Rattle.kp_step.specs.declared.seat.Seat.{Seat}
use Rattle.kp_step.specs.Node.{Seats}
use Rattle.kp_step.specs.Tables.{seated}
use Rattle.kp_step.specs.Committing.{packets_for}
use Rattle.kp_node.specs.Hearing.{heard_one, heard_with}

-- a connection heard of an event, or was given up
abbrev pub Hears : Event → Connection → Connection → Type 0
Hears e c c' = (found : Bool) × (c' ≡ heard_one found e c)

-- the seat of one that did
abbrev pub SeatHears : Event → ℕ → Seat → Seat → Type 0
SeatHears e k s s' = (found : Bool) × (s' ≡ seated s (heard_one found e s.connection))

-- a seat behind packets of events, of which so many find memory
abbrev pub told_with : Option ℕ → List (List ℕ) → Seat → Seat
told_with n ps s = seated s (heard_with n ps s.connection)

-- by some luck each connection heard of its events
abbrev pub AreTold : List (ℕ × Event) → Seats → Seats → Type 0
AreTold pairs old new = (k : ℕ) → (n : Option ℕ) × (map.get new k ≡ option_map (told_with n (packets_for k pairs)) (map.get old k))

-- whatever luck comes from here on with the others, some luck from the beginning leads to the same
abbrev pub TellsOn : List (ℕ × Event) → List (ℕ × Event) → Seats → Seats → Type 0
TellsOn pairs rest old here = (k : ℕ) (n : Option ℕ) → (m : Option ℕ) × (option_map (told_with n (packets_for k rest)) (map.get here k) ≡ option_map (told_with m (packets_for k pairs)) (map.get old k))
