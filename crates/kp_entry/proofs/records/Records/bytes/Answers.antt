use Rattle.std.proofs.Common.{ap, sym, subst, ◌∙◌}
use Rattle.kp_entry.specs.Records.{spelled, IsRun}
use Rattle.kp_entry.proofs.Runs.{spelled_listed, run_listed}
use Rattle.kp_entry.proofs.records.Records.bytes.Goals as goal

pub returns-clause-spelled : goal.returns-clause-spelled
returns-clause-spelled c = c.bytes.ensures ∙ sym (spelled_listed c.self.inside.pieces.strings c.self.inside.base c.self.invariant) ∙ ap spelled c.self.view_is

pub returns-clause-run : goal.returns-clause-run
returns-clause-run c = subst IsRun c.self.view_is (run_listed c.self.inside.pieces.strings c.self.inside.base c.self.invariant)
