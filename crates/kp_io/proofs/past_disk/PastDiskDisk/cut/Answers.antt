use Rattle.std.proofs.Common.{Some, ◌∙◌, ap}
use Rattle.kp_io.specs.Memory.{PastPlate}
use Rattle.kp_io.specs.Crash.{cut_down}
use Rattle.kp_io.proofs.Written.{cut_noted}
use Rattle.kp_io.proofs.past_disk.PastDiskDisk.cut.Goals as goal

pub returns-in-Ok-clause-past : goal.returns-in-Ok-clause-past
returns-in-Ok-clause-past c = ap Some (cut_noted c.self.inside.first.items _ _ _ _ _ _ c.in-Ok.ensures.ok ∙ ap (λ (p : PastPlate). cut_down c.raised.result c.args.len p.past) c.self.view_is)
