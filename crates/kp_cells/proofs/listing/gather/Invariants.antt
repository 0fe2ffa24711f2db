use Rattle.std.proofs.Common.{take}
use Rattle.std.specs.BTreeSet.{contains}
use Rattle.kp_model.specs.State.{path_cmp}
use Rattle.kp_cells.specs.Listed.{side_of}
use Rattle.kp_cells.proofs.Walked.{Walked}
use Rattle.kp_cells.proofs.listing.gather.Given as goal

abbrev pub invariant-loop-number : goal.invariant-loop-number
invariant-loop-number g l = Walked (g.P.Pick.test l.pick) l.names (side_of l.latest l.metas) (take l.number-index l.numbers) (contains path_cmp l.found)
