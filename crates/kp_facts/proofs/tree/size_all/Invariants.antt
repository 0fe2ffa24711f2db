use Rattle.std.proofs.Common.{◌≡◌, map, take}
use Rattle.std.specs.Prelude.{sum}
use Rattle.kp_facts.specs.Tree.{size_at}
use Rattle.kp_facts.proofs.tree.size_all.Given as goal

abbrev pub invariant-loop-path : goal.invariant-loop-path
invariant-loop-path g l = l.size ≡ sum (map (size_at (g.V.View.state l.view).nodes) (take l.path-index l.paths))
