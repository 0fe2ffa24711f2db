use Rattle.kp_journal.specs.Journals.{journal_of}
use Rattle.kp_homes.proofs.Looking.{journal_read, journal_unread}
use Rattle.kp_homes.proofs.reading.read_journal.Goals as goal

pub returns-in-Ok-clause-read : goal.returns-in-Ok-clause-read
returns-in-Ok-clause-read g c = journal_read c.args.slot (g.D.Disk.held c.args.disk.now) (journal_of c.args.node) c.in-Ok.journal c.in-Ok.ensures.read

pub returns-in-Err-clause-read : goal.returns-in-Err-clause-read
returns-in-Err-clause-read g c = journal_unread c.args.slot (g.D.Disk.held c.args.disk.now) (journal_of c.args.node) c.in-Err.fail c.fail_in.result c.in-Err.ensures.read c.fail_in.ensures
