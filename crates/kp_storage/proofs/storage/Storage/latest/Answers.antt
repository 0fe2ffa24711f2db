use Rattle.std.proofs.Common.{ap, ◌∙◌}
use Rattle.kp_model.specs.Store.{Store, after}
use Rattle.kp_storage.proofs.Keeping.{latest_state_is}
use Rattle.kp_storage.proofs.Shown.{latest_fit}
use Rattle.kp_storage.proofs.storage.Storage.latest.Goals as goal

pub latest-requires : goal.latest-requires
latest-requires c = record { fits = latest_fit c.self.inside.cells c.self.inside.entries.items c.self.inside.answers.items c.self.invariant }

pub returns : goal.returns
returns c = c.latest.ensures ∙ latest_state_is c.self.inside.cells c.self.inside.entries.items c.self.inside.answers.items c.self.invariant ∙ ap (λ (x : Store). after x.state x.unapplied) c.self.view_is
