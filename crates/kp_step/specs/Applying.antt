-- Which entry is applied next.
use Rattle.std.specs.Prelude.{nat_lt, if◌then◌else◌, Option, None, slice_get}
use Rattle.kp_model.specs.LogEntry.{LogEntry}
use Rattle.kp_step.specs.Node.{Node, unapplied}

-- the first of the unapplied entries, where it is committed
abbrev pub upcoming : Node → Option LogEntry
upcoming x = if nat_lt x.state.applied x.running.commit then slice_get (unapplied x) 0 else None
