use Rattle.std.proofs.Common.{List, [], ◌∷◌, ◌++◌, ◌∙◌, ap}
use Rattle.kp_io.specs.declared.past_disk.Call.{Call}
use Rattle.kp_io.specs.declared.past_disk.Call.TheVariants.{Sync}
use Rattle.kp_io.proofs.past_disk.note_sync.Goals as goal

pub returns-clause-ok : goal.returns-clause-ok
returns-clause-ok c = record { bytes = c.in_ok-bytes.bytes; are = c.in_ok-bytes.ensures.items; noted = c.push_reserved.ensures.items ∙ ap (λ (l : List Call). l ++ Sync c.args.number c.in_ok-bytes.bytes ∷ []) c.in_ok-reserve.ensures.items }
