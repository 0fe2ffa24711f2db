use Rattle.std.proofs.Common.{take}
use Rattle.kp_journal.proofs.Whole.{generation_told}
use Rattle.kp_journal.proofs.disk.open_generation.Goals as goal

pub returns-clause-open : goal.returns-clause-open
returns-clause-open g c = generation_told _ (take c.in_ok-filled.filled c.read_front.new.into) c.generation_in.result c.generation_in.ensures c.in_ok-filled.ensures.bytes
