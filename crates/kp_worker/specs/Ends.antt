-- How a worker ends for what its node answers (this project's own).
use Rattle.kp_event.specs.declared.fail.KeptFail.{KeptFail}
use Rattle.kp_event.specs.declared.fail.KeptFail.TheVariants as fail
use Rattle.kp_event.specs.declared.fail.Why.TheVariants as why
use Rattle.kp_shared.specs.declared.refusal.Refusal.{Refusal}
use Rattle.kp_shared.specs.declared.refusal.Refusal.TheVariants as refusal
use Rattle.kp_worker.specs.declared.ends.NodeEnd.{NodeEnd}
use Rattle.kp_worker.specs.declared.ends.NodeEnd.TheVariants as end

-- a dead node ends the worker with the cause of its death
abbrev pub end_of_fail : KeptFail → NodeEnd
end_of_fail fail.NoMemory = end.NoMemory
end_of_fail fail.DiskFault = end.DiskFault
end_of_fail (fail.Full s n) = end.Full s n
end_of_fail (fail.Dead (why.Disk n)) = end.DiskFault
end_of_fail (fail.Dead (why.Full s n)) = end.Full s n
end_of_fail (fail.Dead why.Torn) = end.NoMemory

abbrev pub end_for : Refusal → NodeEnd
end_for (refusal.Failed f) = end_of_fail f
end_for refusal.Worn = end.Worn
