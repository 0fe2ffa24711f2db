use Rattle.std.proofs.Common.{rules}
use Rattle.kp_shared.specs.declared.task.Task.TheVariants as task
use Rattle.kp_shared.proofs.Deaths.{never_torn}
use Rattle.kp_shared.proofs.thinking.think.Goals as goal

pub refused-requires : goal.refused-requires
refused-requires g c = let a = c.in-Ok-Err.ensures.adds in
    never_torn (λ s. s.kept) g.K.Kept.moves g.K.Kept.stays g.K.Kept.keeps g.K.Kept.life c.args.seat.now.me.0.start a.before (task.Think record { now = c.now-now.result; kind = c.args.kind }) c.in-Ok-Err.field-0 c.in-Ok-Err.fail a.after c.requires.alive a.answer.0 a.answer.1 (search rules)
