-- What a node's parts become where a connection comes, goes or takes what is ready for it.
use Rattle.std.specs.Prelude.{ℕ, ◌+◌, List, Option, Some, None, if◌then◌else◌}
use Rattle.kp_seats.specs.Seating.{Seating, accepted, removed, holding}
use Rattle.kp_watch.specs.declared.watch.Watch.{Watch}
use Rattle.kp_watch.specs.Watching.{dropped}
use Rattle.kp_conn.specs.Connection.{blank, drained, is_over}
use Rattle.kp_step.specs.declared.seat.Seat.{Seat}
use Rattle.kp_step.specs.Tables.{seated}
use Rattle.kp_node.specs.Parts.{Parts}

-- a connection comes
abbrev pub come : Parts → List ℕ → Parts
come p draw = record p { seating = accepted p.seating (record { draw = draw; connection = blank }); events = p.events + 1 }

-- a connection goes, with its watches
abbrev pub gone : Parts → ℕ → Parts
gone p k = record p { seating = removed p.seating k; watches = dropped p.watches k; events = p.events + 1 }

-- what was ready for a connection has gone out
abbrev pub emptied_seating : Seating Seat → ℕ → Option Seat → Seating Seat
emptied_seating t k None = t
emptied_seating t k (Some s) = holding t k (seated s (drained s.connection))

-- and where it is over, it goes, with its watches
abbrev pub drained_seating : Seating Seat → ℕ → Option Seat → Seating Seat
drained_seating t k None = t
drained_seating t k (Some s) = if is_over s.connection.phase then removed t k else holding t k (seated s (drained s.connection))

abbrev pub drained_watches : List Watch → ℕ → Option Seat → List Watch
drained_watches ws k None = ws
drained_watches ws k (Some s) = if is_over s.connection.phase then dropped ws k else ws

abbrev pub drained_at : Parts → ℕ → Option Seat → Parts
drained_at p k s = record p { seating = drained_seating p.seating k s; watches = drained_watches p.watches k s; events = p.events + 1 }
