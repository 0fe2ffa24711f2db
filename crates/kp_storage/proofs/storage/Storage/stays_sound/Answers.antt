use Rattle.std.proofs.Common.{subst}
use Rattle.kp_model.specs.Good.{IsSound}
use Rattle.kp_model.specs.Store.{Store, after}
use Rattle.kp_storage.proofs.Keeping.{latest_sound}
use Rattle.kp_storage.proofs.storage.Storage.stays_sound.Goals as goal

pub returns-clause-latest : goal.returns-clause-latest
returns-clause-latest c = subst (λ (x : Store). IsSound (after x.state x.unapplied)) c.self.view_is (latest_sound c.self.inside.cells c.self.inside.entries.items c.self.inside.answers.items c.self.invariant)
