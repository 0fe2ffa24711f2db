use Rattle.std.proofs.Common.{◌+◌, length, ap, arith}
use Rattle.kp_model.specs.Store.{Store}
use Rattle.kp_storage.proofs.Keeping.{applied_is}
use Rattle.kp_storage.proofs.storage.Storage.last.Goals as goal

pub returns-clause-index : goal.returns-clause-index
returns-clause-index c = omega (arith, c.applied.ensures, c.len.ensures, applied_is c.self.inside.cells, ap (λ (x : Store). x.state.applied + length x.unapplied) c.self.view_is)
