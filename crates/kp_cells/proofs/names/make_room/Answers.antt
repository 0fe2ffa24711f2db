use Rattle.kp_cells.proofs.Named.{same_texts}
use Rattle.kp_cells.proofs.names.make_room.Goals as goal

pub returns-clause-same : goal.returns-clause-same
returns-clause-same c = same_texts _ _ (λ n. c.reserve.ensures.entries.2 n)
