use Rattle.std.proofs.Common.{sym, subst}
use Rattle.std.specs.Prelude.{IsTrue}
use Rattle.std.specs.FinMap.{is_sorted}
use Rattle.kp_model.specs.State.{path_cmp}
use Rattle.kp_plain.proofs.Shows.{again_sorted}
use Rattle.kp_plain.proofs.shown.show_both.Goals as goal

pub show-requires-2-clause-sorted : goal.show-requires-2-clause-sorted
show-requires-2-clause-sorted c = subst (λ xs. IsTrue (is_sorted path_cmp xs)) (sym c.in_ok-show.ensures) (again_sorted c.args.nodes.now c.in_ok-from_str.field-0 c.args.metas.now.items c.requires.sorted)
