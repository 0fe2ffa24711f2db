use Rattle.std.proofs.Common.{ap, ◌∙◌}
use Rattle.std.specs.FinMap as map
use Rattle.kp_model.specs.Store.{Store}
use Rattle.kp_storage.proofs.storage.Storage.node_count.Goals as goal

pub returns : goal.returns
returns c = c.node_count.ensures ∙ ap (λ (x : Store). map.len x.state.nodes) c.self.view_is
