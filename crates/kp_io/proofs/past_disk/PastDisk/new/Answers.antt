use Rattle.std.proofs.Common.{◌∙◌, ap}
use Rattle.kp_io.specs.Crash.{Past}
use Rattle.kp_io.proofs.Written.{made_holds, made_view}
use Rattle.kp_io.proofs.past_disk.PastDisk.new.Goals as goal

pub invariant_of-result : goal.invariant_of-result
invariant_of-result c = made_holds _ _ _ c.new.ensures.items (c.in_ok-from_slice.ensures.items ∙ c.deref.ensures.value)

pub returns : goal.returns
returns c = ap (λ (p : Past). record { held = c.args.bytes.items; past = p; faults = 0 }) (made_view _ _ _ c.new.ensures.items (c.in_ok-from_slice.ensures.items ∙ c.deref.ensures.value))
