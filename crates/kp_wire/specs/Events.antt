-- The body of an event packet: a type, the state 3 and a path.
use Rattle.std.specs.Prelude.{ℕ, ℤ, pos, List, Option, Some, None, if◌then◌else◌}
use Rattle.std.specs.Ordering.{int_eq}
use Rattle.kp_jute.specs.Form.{Form, ◌⊗◌, seen, narrowed, present}
use Rattle.kp_jute.specs.Jute.{ints, texts, fixed_ints}
use Rattle.kp_model.specs.declared.reply.Event.{Event}
use Rattle.kp_model.specs.declared.reply.Event.TheVariants as event
use Rattle.kp_wire.specs.declared.event.EventKind.{EventKind}
use Rattle.kp_wire.specs.declared.event.EventKind.TheVariants as kinds

-- the number of a type
abbrev pub kind_number : EventKind → ℤ
kind_number kinds.Created = pos 1
kind_number kinds.Deleted = pos 2
kind_number kinds.DataChanged = pos 3
kind_number kinds.ChildrenChanged = pos 4

-- the type of a number
abbrev pub kind_of : ℤ → Option EventKind
kind_of z = if int_eq z (pos 1) then Some kinds.Created else if int_eq z (pos 2) then Some kinds.Deleted else if int_eq z (pos 3) then Some kinds.DataChanged else if int_eq z (pos 4) then Some kinds.ChildrenChanged else None

-- an int that is the number of a type; any other is refused
abbrev pub event_kinds : Form EventKind
event_kinds = narrowed kind_of kind_number ints

-- the event of that type at the path
abbrev pub event_at : EventKind → List ℕ → Event
event_at kinds.Created path = event.Created path
event_at kinds.Deleted path = event.Deleted path
event_at kinds.DataChanged path = event.DataChanged path
event_at kinds.ChildrenChanged path = event.ChildrenChanged path

-- the type of an event
abbrev pub kind_in : Event → EventKind
kind_in (event.Created path) = kinds.Created
kind_in (event.Deleted path) = kinds.Deleted
kind_in (event.DataChanged path) = kinds.DataChanged
kind_in (event.ChildrenChanged path) = kinds.ChildrenChanged

-- its path
abbrev pub path_in : Event → List ℕ
path_in (event.Created path) = path
path_in (event.Deleted path) = path
path_in (event.DataChanged path) = path
path_in (event.ChildrenChanged path) = path

-- a type, the state 3 and a path that is not null
abbrev pub events : Form Event
events = seen (λ t. event_at t.0 t.1.1) (λ e. (kind_in e, (tt, path_in e))) (event_kinds ⊗ (fixed_ints (pos 3) ⊗ present texts))
