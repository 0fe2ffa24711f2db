use Rattle.std.proofs.Common.{◌≡◌, IfOk, Some, None, subst, ◌∙◌}
use Rattle.kp_layers.proofs.InGroups.{none_ordered, listed_in}
use Rattle.kp_layers.proofs.history.History.keys_in.Goals as goal

pub returns-in-Some : goal.returns-in-Some
returns-in-Some g c =
    subst (λ ys. IfOk c.those_in.result (λ ks. ks.items ≡ ys))
    (listed_in g.S.Group.PartialEq.eq g.S.Grouping.group_of c.args.level _ _ _ c.args.group _ c.self.view_is c.self.invariant.0.index (Some c.in-Some.counts.now) c.in-Some.ensures c.those_in.ensures.ordered)
    c.those_in.ensures.items

pub returns-in-None : goal.returns-in-None
returns-in-None g c =
    c.new.ensures.items
    ∙ listed_in g.S.Group.PartialEq.eq g.S.Grouping.group_of c.args.level _ _ _ c.args.group _ c.self.view_is c.self.invariant.0.index None c.in-None.ensures none_ordered
