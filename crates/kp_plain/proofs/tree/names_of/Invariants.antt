use Rattle.std.proofs.Common.{◌≡◌, take, map}
use Rattle.kp_model.specs.Path.{name}
use Rattle.kp_plain.proofs.tree.names_of.Given as goal

abbrev pub invariant-loop-path : goal.invariant-loop-path
invariant-loop-path l = l.names ≡ map name (take l.path-index l.paths)
