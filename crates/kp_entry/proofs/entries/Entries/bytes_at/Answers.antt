use Rattle.std.proofs.Common.{ap, subst, ◌∙◌, List}
use Rattle.std.specs.Prelude.{slice_get, option_map, IfSome}
use Rattle.kp_model.specs.LogEntry.{LogEntry}
use Rattle.kp_entry.specs.Entries.{entries}
use Rattle.kp_entry.proofs.Spelled.{spelled_at, fits_at}
use Rattle.kp_entry.proofs.entries.Entries.bytes_at.Goals as goal

pub returns-clause-bytes : goal.returns-clause-bytes
returns-clause-bytes c = c.get.ensures ∙ spelled_at c.args.index c.self.inside.pieces.strings c.self.invariant.spelled ∙ ap (λ (es : List LogEntry). option_map entries.spell (slice_get es c.args.index)) c.self.view_is

pub returns-clause-fits : goal.returns-clause-fits
returns-clause-fits c = subst (λ (es : List LogEntry). IfSome (slice_get es c.args.index) entries.Fits) c.self.view_is (fits_at c.args.index c.self.inside.pieces.strings c.self.invariant.spelled)
