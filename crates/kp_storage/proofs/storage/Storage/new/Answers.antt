use Rattle.std.proofs.Common.{[], ap, ◌∙◌}
use Rattle.kp_model.specs.State.{State}
use Rattle.kp_model.specs.Store.{Store}
use Rattle.kp_storage.proofs.Keeping.{sound_empty}
use Rattle.kp_storage.proofs.storage.Storage.new.Goals as goal

pub of_cells-requires-clause-sound : goal.of_cells-requires-clause-sound
of_cells-requires-clause-sound c = sound_empty _ c.in_ok-new.ensures.empty

pub returns : goal.returns
returns c = c.of_cells.ensures ∙ ap (λ (x : State). let y : Store = record { state = x; unapplied = [] } in y) c.in_ok-new.ensures.empty
