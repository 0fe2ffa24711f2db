use Rattle.kp_layers.proofs.Used.{used_empty}
use Rattle.kp_layers.proofs.laws.keys_come_with_their_writes.Goals as goal

pub returns-clause-empty : goal.returns-clause-empty
returns-clause-empty g c = used_empty g.row.V.Denot
