-- How a worker's task is refused.
use Rattle.std.specs.Prelude.{⊤}
use Rattle.kp_event.specs.declared.fail.KeptFail.{KeptFail}
use Rattle.kp_event.specs.declared.fail.KeptFail.TheVariants as fail
use Rattle.kp_event.specs.declared.fail.Why.TheVariants as why

-- no torn event is the cause
abbrev pub IsUntorn : KeptFail → Type 0
IsUntorn fail.NoMemory = ⊤
IsUntorn fail.DiskFault = ⊤
IsUntorn (fail.Full s n) = ⊤
IsUntorn (fail.Dead (why.Disk n)) = ⊤
IsUntorn (fail.Dead (why.Full s n)) = ⊤
IsUntorn (fail.Dead why.Torn) = ⊥
