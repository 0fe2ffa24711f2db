use Rattle.std.proofs.Common.{◌≡◌, ◌++◌}
use Rattle.std.specs.FinMap as map
use Rattle.std.specs.List.{filter}
use Rattle.kp_layers.specs.Listed.{at_level}
use Rattle.kp_layers.proofs.history.History.keys.Given as goal

abbrev pub invariant-loop-key : goal.invariant-loop-key
invariant-loop-key g l = filter (map.contains_key (at_level l.level l.self)) l.initial.key-iterator ≡ l.keys.items ++ filter (map.contains_key (at_level l.level l.self)) l.key-iterator
