use Rattle.std.proofs.Common.{◌≡◌, take}
use Rattle.std.specs.List.{filter}
use Rattle.kp_plain.specs.Picked.{picks}
use Rattle.kp_plain.proofs.Listing.{paths_in}
use Rattle.kp_plain.proofs.nodes.gathered.Given as goal

abbrev pub invariant-loop-path : goal.invariant-loop-path
invariant-loop-path l = l.found ≡ filter (picks l.nodes l.pick) (paths_in (take l.path-index l.items))
