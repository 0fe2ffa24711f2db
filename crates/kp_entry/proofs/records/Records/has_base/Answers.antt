use Rattle.std.proofs.Common.{ap, sym, ◌∙◌}
use Rattle.kp_entry.specs.Records.{has_base}
use Rattle.kp_entry.proofs.Runs.{has_listed}
use Rattle.kp_entry.proofs.records.Records.has_base.Goals as goal

pub returns : goal.returns
returns c = c.is_some.ensures ∙ sym (has_listed c.self.inside.pieces.strings c.self.inside.base c.self.invariant) ∙ ap has_base c.self.view_is
