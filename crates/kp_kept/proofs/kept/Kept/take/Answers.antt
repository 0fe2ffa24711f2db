use Rattle.std.proofs.Common.{ℕ, ◌≤◌, ◌^◌, subst}
use Rattle.kp_kept.proofs.Stepped.{plain_of, leads}
use Rattle.kp_kept.proofs.Thoughts.{keeps_on}
use Rattle.kp_kept.proofs.kept.Kept.take.Goals as goal

pub give-requires-clause-plain : goal.give-requires-clause-plain
give-requires-clause-plain g c = plain_of c.in-Ok.ensures.ok.0 c.args.self.now.node c.event.new.self c.args.event c.in-Ok.outcome c.in-Ok.ensures.ok.1

pub returns-in-Ok-clause-keeps : goal.returns-in-Ok-clause-keeps
returns-in-Ok-clause-keeps g c = λ f k.
    keeps_on g.H.Disk.held g.H.Disk.past c.args.self.now c.give.new.self c.event.new.self c.in-Ok.outcome.records c.in-Ok.outcome.image f c.give.ensures.same.home c.give.ensures.same.node c.give.ensures.waits
    (leads c.in-Ok.ensures.ok.0 c.args.self.now.node c.event.new.self c.args.event c.in-Ok.outcome c.in-Ok.ensures.ok.1 (subst (λ (n : ℕ). n ≤ 2 ^ 62) c.last-last.ensures.index c.last-last.ensures.range)) k
