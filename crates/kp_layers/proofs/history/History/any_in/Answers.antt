use Rattle.std.proofs.Common.{[], Some, None, ◌∙◌}
use Rattle.kp_layers.specs.Listed.{at_level}
use Rattle.kp_layers.specs.Grouped.{is_in}
use Rattle.kp_layers.proofs.InGroups.{none_ordered, listed_in, any_in_both}
use Rattle.kp_layers.proofs.history.History.any_in.Goals as goal

pub returns-in-Some : goal.returns-in-Some
returns-in-Some g c =
    c.any_of.ensures.value
    ∙ any_in_both (is_in g.S.Group.PartialEq.eq g.S.Grouping.group_of (at_level c.args.level c.args.self.now) c.args.group) _ _
    (listed_in g.S.Group.PartialEq.eq g.S.Grouping.group_of c.args.level _ _ _ c.args.group _ c.self.view_is c.self.invariant.0.index (Some c.in-Some.counts.now) c.in-Some.ensures c.any_of.ensures.ordered)

pub returns-in-None : goal.returns-in-None
returns-in-None g c =
    any_in_both (is_in g.S.Group.PartialEq.eq g.S.Grouping.group_of (at_level c.args.level c.args.self.now) c.args.group) [] _
    (listed_in g.S.Group.PartialEq.eq g.S.Grouping.group_of c.args.level _ _ _ c.args.group _ c.self.view_is c.self.invariant.0.index None c.in-None.ensures none_ordered)
