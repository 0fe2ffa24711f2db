use Rattle.std.proofs.Common.{rules, sym, subst}
use Rattle.std.proofs.lemmas.Fn.{always_returns_same}
use Rattle.kp_model.specs.State.{path_cmp}
use Rattle.kp_cells.proofs.Paths.{path_total}
use Rattle.kp_plain.specs.Place.{StandsFor}
use Rattle.kp_plain.proofs.Searched.{searched}
use Rattle.kp_plain.proofs.sorted.place_of_path.Goals as goal

pub returns : goal.returns
returns g c = subst (StandsFor path_cmp c.args.path.now c.args.items.now) (sym c.told.ensures)
    (searched path_total c.args.path.now c.args.items.now c.binary_search_by.result c.requires c.binary_search_by.ensures.bound
    (c.binary_search_by.ensures.position (λ e. path_cmp e.0 c.args.path.now) (always_returns_same _ _ _ (λ a r f' k. search rules))))
