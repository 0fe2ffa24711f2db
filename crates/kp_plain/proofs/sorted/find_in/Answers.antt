use Rattle.std.proofs.Common.{subst}
use Rattle.kp_plain.specs.Place.{StandsFor}
use Rattle.kp_plain.proofs.Searched.{found_here}
use Rattle.kp_plain.proofs.sorted.find_in.Goals as goal

pub returns-in-At : goal.returns-in-At
returns-in-At g c = found_here g.met.K.Ord.total c.args.key.now c.args.items.now c.in-At.i c.index-items-i.result (subst (StandsFor g.K.Ord.cmp c.args.key.now c.args.items.now) c.in-At.is c.place_of.ensures)
