use Rattle.std.proofs.Common.{subst}
use Rattle.kp_model.specs.State.{path_cmp}
use Rattle.kp_plain.specs.Place.{StandsFor}
use Rattle.kp_plain.proofs.Above.{raised_here}
use Rattle.kp_plain.proofs.shown.raise.Goals as goal

pub returns-in-At : goal.returns-in-At
returns-in-At c = raised_here c.args.metas.now c.args.path.now c.in-At.i c.index-metas-i.result c.index-metas-i-in-At.result c.shown_count.result
    (subst (StandsFor path_cmp c.args.path.now c.args.metas.now) c.in-At.is c.place_of_path.ensures)
    c.shown_count.ensures
