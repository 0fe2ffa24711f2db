use Rattle.std.proofs.Common.{sym, refl}
use Rattle.kp_entry.proofs.Runs.{no_base_of}
use Rattle.kp_entry.proofs.records.Records.push.Goals as goal

pub push_with_bytes-requires-clause-no_base : goal.push_with_bytes-requires-clause-no_base
push_with_bytes-requires-clause-no_base c = no_base_of _ _ c.in-None.ensures refl
