use Rattle.std.proofs.Common.{ap, sym, ◌∙◌, Some}
use Rattle.std.specs.Prelude.{slice_get}
use Rattle.kp_entry.proofs.Spelled.{entry_there}
use Rattle.kp_entry.proofs.entries.Entries.get.Goals as goal

pub returns-in_ok-spelled_entry-in-Some : goal.returns-in_ok-spelled_entry-in-Some
returns-in_ok-spelled_entry-in-Some c = ap Some c.in_ok-spelled_entry-in-Some.ensures ∙ sym (entry_there c.in-Some.bytes.now (slice_get c.args.self.now c.args.index) c.in-Some.ensures.bytes c.in-Some.ensures.fits)
