-- The events that take no memory.
use Rattle.std.specs.Prelude.{Result, IsOk}
use Rattle.kp_event.specs.declared.event.NodeEventKind.{NodeEventKind}
use Rattle.kp_event.specs.declared.event.NodeEventKind.TheVariants as kind

-- what a connection that hangs up, and one that takes what is ready for it, are answered is no want of memory
abbrev pub IsSure : {M A E : Type 0} → NodeEventKind M → Result A E → Type 0
IsSure (kind.Accept draw) r = Unit {0}
IsSure (kind.Client k bytes) r = Unit {0}
IsSure (kind.Hangup k) r = IsOk r
IsSure (kind.Drain k) r = IsOk r
IsSure (kind.Deliver m) r = Unit {0}
IsSure kind.Timeout r = Unit {0}
IsSure kind.Beat r = Unit {0}
IsSure kind.CommitOne r = Unit {0}
IsSure kind.ExpireDue r = Unit {0}
IsSure kind.Snapshot r = Unit {0}
