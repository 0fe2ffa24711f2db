use Rattle.kp_journal.proofs.NewJournal.{finished_is}
use Rattle.kp_journal.proofs.promises.new_journal_stands.Goals as goal

pub returns : goal.returns
returns c = λ h rs xs is run based short some. finished_is h rs xs is run based short some
