use Rattle.std.proofs.Common.{sym, subst}
use Rattle.std.specs.Prelude.{IsTrue}
use Rattle.std.specs.FinMap.{is_sorted}
use Rattle.kp_model.specs.State.{path_cmp}
use Rattle.kp_plain.proofs.Above.{parent_sorted}
use Rattle.kp_plain.proofs.shown.raise_in_order.Goals as goal

pub returns-clause-sorted : goal.returns-clause-sorted
returns-clause-sorted c = subst (λ xs. IsTrue (is_sorted path_cmp xs)) (sym c.raise_parent.ensures) (parent_sorted c.args.path.now c.args.metas.now c.requires)
