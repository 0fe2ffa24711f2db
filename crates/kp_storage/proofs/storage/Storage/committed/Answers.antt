use Rattle.std.proofs.Common.{ap, ◌∙◌}
use Rattle.kp_model.specs.Store.{Store}
use Rattle.kp_storage.proofs.Shown.{committed_fit}
use Rattle.kp_storage.proofs.storage.Storage.committed.Goals as goal

pub committed-requires : goal.committed-requires
committed-requires c = record { fits = committed_fit c.self.inside.cells c.self.inside.entries.items c.self.inside.answers.items c.self.invariant }

pub returns : goal.returns
returns c = c.committed.ensures ∙ ap (λ (x : Store). x.state) c.self.view_is
