use Rattle.std.proofs.Common.{ap, ◌∙◌}
use Rattle.std.specs.Prelude.{not, ◌==◌}
use Rattle.std.specs.FinMap as map
use Rattle.kp_model.specs.Store.{Store}
use Rattle.kp_cells.specs.Mapped.{kept}
use Rattle.kp_storage.proofs.Shown.{committed_fit}
use Rattle.kp_storage.proofs.storage.Storage.owned_count.Goals as goal

pub owned_count-requires : goal.owned_count-requires
owned_count-requires c = committed_fit c.self.inside.cells c.self.inside.entries.items c.self.inside.answers.items c.self.invariant

pub returns : goal.returns
returns c = c.owned_count.ensures ∙ ap (λ (x : Store). map.len (kept (λ _ n. not (n.owner == 0)) x.state.nodes)) c.self.view_is
