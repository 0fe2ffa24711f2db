use Rattle.std.proofs.Common.{◌≡◌}
use Rattle.std.specs.List.{list_any}
use Rattle.kp_layers.specs.Listed.{at_level}
use Rattle.kp_layers.specs.Grouped.{is_in}
use Rattle.kp_layers.proofs.history.History.any_of.Given as goal

abbrev pub invariant-loop-key : goal.invariant-loop-key
invariant-loop-key g l =
    list_any (is_in g.S.Group.PartialEq.eq g.S.Grouping.group_of (at_level l.level l.self) l.group) l.initial.key-iterator ≡ list_any (is_in g.S.Group.PartialEq.eq g.S.Grouping.group_of (at_level l.level l.self) l.group) l.key-iterator
