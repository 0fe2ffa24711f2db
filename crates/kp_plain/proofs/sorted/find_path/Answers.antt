use Rattle.std.proofs.Common.{subst}
use Rattle.kp_model.specs.State.{path_cmp}
use Rattle.kp_cells.proofs.Paths.{path_total}
use Rattle.kp_plain.specs.Place.{StandsFor}
use Rattle.kp_plain.proofs.Searched.{found_here}
use Rattle.kp_plain.proofs.sorted.find_path.Goals as goal

pub returns-in-At : goal.returns-in-At
returns-in-At g c = found_here path_total c.args.path.now c.args.items.now c.in-At.i c.index-items-i.result (subst (StandsFor path_cmp c.args.path.now c.args.items.now) c.in-At.is c.place_of_path.ensures)
