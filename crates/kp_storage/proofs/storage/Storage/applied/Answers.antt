use Rattle.std.proofs.Common.{ap, sym, ◌∙◌}
use Rattle.kp_model.specs.Store.{Store}
use Rattle.kp_storage.proofs.Keeping.{applied_is}
use Rattle.kp_storage.proofs.storage.Storage.applied.Goals as goal

pub returns : goal.returns
returns c = c.applied.ensures ∙ sym (applied_is c.self.inside.cells) ∙ ap (λ (x : Store). x.state.applied) c.self.view_is
