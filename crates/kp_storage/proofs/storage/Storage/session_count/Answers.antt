use Rattle.std.proofs.Common.{ap, ◌∙◌}
use Rattle.std.specs.FinMap as map
use Rattle.kp_model.specs.Store.{Store}
use Rattle.kp_storage.proofs.storage.Storage.session_count.Goals as goal

pub returns : goal.returns
returns c = c.session_count.ensures ∙ ap (λ (x : Store). map.len x.state.sessions) c.self.view_is
