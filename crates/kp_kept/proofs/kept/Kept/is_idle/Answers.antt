use Rattle.std.proofs.Common.{◌∙◌}
use Rattle.kp_kept.proofs.Ends.{some_waits}
use Rattle.kp_kept.proofs.kept.Kept.is_idle.Goals as goal

pub returns-else-len-eq0 : goal.returns-else-len-eq0
returns-else-len-eq0 g c = some_waits c.args.self.now.image c.args.self.now.waiting.items c.len.result (c.len.ensures ∙ c.args.self.now.waiting.ok.0) c.args.self.now.wanted c.if-len-eq0.false
