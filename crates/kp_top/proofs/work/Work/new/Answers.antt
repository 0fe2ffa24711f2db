use Rattle.std.proofs.Common.{refl, sym, subst}
use Rattle.kp_model.specs.Store.{Store}
use Rattle.kp_top.specs.Paced.{IsPaced}
use Rattle.kp_top.proofs.Paces.{paced_empty}
use Rattle.kp_top.proofs.work.Work.new.Goals as goal

pub invariant_of-result : goal.invariant_of-result
invariant_of-result c = (refl, subst (λ (x : Store). IsPaced x.state) (sym c.in_ok-new.ensures) paced_empty)
