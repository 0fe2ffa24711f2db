use Rattle.std.specs.Prelude.{slice_get}
use Rattle.kp_entry.proofs.Spelled.{some_entry}
use Rattle.kp_entry.proofs.entries.Entries.term_at.Goals as goal

pub returns-in-Some-clause-term : goal.returns-in-Some-clause-term
returns-in-Some-clause-term c = some_entry c.in-Some.bytes.now c.spelled_term.result (slice_get c.args.self.now c.args.index) c.in-Some.ensures.bytes c.in-Some.ensures.fits c.spelled_term.ensures.term
