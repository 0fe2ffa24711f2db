use Rattle.kp_entry.specs.Entries.{entries}
use Rattle.kp_entry.proofs.EntryLaws.{no_prefix, entries_lawful}
use Rattle.kp_entry.proofs.promises.no_entry_begins_another.Goals as goal

pub returns : goal.returns
returns c = λ a b more fa fb e. no_prefix entries entries_lawful a b more fa fb e
