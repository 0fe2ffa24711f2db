-- How a turn that was cut short ends a call (this project's own).
use Rattle.std.specs.Prelude.{⊤}
use Rattle.kp_event.specs.declared.fail.KeptFail.{KeptFail}
use Rattle.kp_event.specs.declared.fail.KeptFail.TheVariants as fail
use Rattle.kp_event.specs.declared.fail.Why.TheVariants as why
use Rattle.kp_shared.specs.declared.refusal.Refusal.{Refusal}
use Rattle.kp_shared.specs.declared.refusal.Refusal.TheVariants as refusal
use Rattle.kp_shared.specs.Ends.{IsUntorn}
use Rattle.kp_dispatch.specs.declared.ends.ConnEnd.{ConnEnd}
use Rattle.kp_dispatch.specs.declared.ends.ConnEnd.TheVariants as end
use Rattle.kp_dispatch.specs.declared.ends.Turned.{Turned}
use Rattle.kp_dispatch.specs.declared.ends.Turned.TheVariants as turned

-- how a task that is refused so ends a connection; no task is refused for a torn event
abbrev pub end_of_fail : KeptFail → ConnEnd
end_of_fail fail.NoMemory = end.NoMemory
end_of_fail fail.DiskFault = end.DiskFault
end_of_fail (fail.Full s n) = end.Full s n
end_of_fail (fail.Dead (why.Disk n)) = end.DiskFault
end_of_fail (fail.Dead (why.Full s n)) = end.Full s n
end_of_fail (fail.Dead why.Torn) = end.DiskFault

-- how a turn that was cut short so ends a connection
abbrev pub end_for : Refusal → ConnEnd
end_for refusal.Worn = end.Worn
end_for (refusal.Failed f) = end_of_fail f

-- how it ends a call of a ticker
abbrev pub turned_for : Refusal → Turned
turned_for refusal.Worn = turned.Worn
turned_for (refusal.Failed f) = turned.Failed f

-- no torn event is the cause
abbrev pub IsUntornRefusal : Refusal → Type 0
IsUntornRefusal refusal.Worn = ⊤
IsUntornRefusal (refusal.Failed f) = IsUntorn f
