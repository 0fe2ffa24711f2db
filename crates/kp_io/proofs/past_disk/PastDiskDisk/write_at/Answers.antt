use Rattle.std.proofs.Common.{Some, length, ◌∙◌, ap}
use Rattle.kp_io.specs.Memory.{PastPlate}
use Rattle.kp_io.specs.Crash.{wrote}
use Rattle.kp_io.proofs.Written.{write_noted}
use Rattle.kp_io.proofs.past_disk.PastDiskDisk.write_at.Goals as goal

pub returns-in-Ok-clause-past : goal.returns-in-Ok-clause-past
returns-in-Ok-clause-past c = ap Some (write_noted c.self.inside.first.items _ _ _ _ _ _ _ c.in-Ok.ensures.ok ∙ ap (λ (p : PastPlate). wrote c.raised.result c.args.at (length c.args.bytes.now) p.past) c.self.view_is)
