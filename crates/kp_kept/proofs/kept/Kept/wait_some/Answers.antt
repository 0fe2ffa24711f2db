use Rattle.std.proofs.Common.{sym, ◌∙◌}
use Rattle.kp_kept.specs.Ahead.{all_records}
use Rattle.kp_kept.proofs.Joining.{empty_waits}
use Rattle.kp_kept.proofs.kept.Kept.wait_some.Goals as goal

pub returns-then-len-eq0-clause-waits : goal.returns-then-len-eq0-clause-waits
returns-then-len-eq0-clause-waits g c = empty_waits c.args.self.now.image (all_records c.args.self.now.waiting.items) c.args.records (sym c.len.ensures ∙ c.if-len-eq0.true)
