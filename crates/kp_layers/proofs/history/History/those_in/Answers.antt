use Rattle.std.proofs.Common.{◌≡◌, ◌++◌, ap, sym, ◌∙◌, ◌∷◌, []}
use Rattle.std.specs.List.{filter}
use Rattle.std.specs.Map.Iter.{deref}
use Rattle.std.proofs.lemmas.Map.Iter.{rest_more, rest_all}
use Rattle.kp_layers.specs.Listed.{at_level}
use Rattle.kp_layers.specs.Grouped.{is_in}
use Rattle.kp_layers.proofs.Listed.{walk_takes, walk_leaves, walk_ends}
use Rattle.kp_layers.proofs.history.History.those_in.Goals as goal

pub loop-key-init : goal.loop-key-init
loop-key-init g c = ap (λ l. l ++ filter (is_in g.S.Group.PartialEq.eq g.S.Grouping.group_of (at_level c.args.level c.args.self.now) c.args.group) c.into_iter-key-iterator.result) (sym c.new-keys.ensures.items)

pub loop-key-preserved-in-Continue-1 : goal.loop-key-preserved-in-Continue-1
loop-key-preserved-in-Continue-1 g c =
    let step : c.loop-key.key-iterator ≡ c.in-Some.key.now ∷ c.next.new.self = rest_more deref _ _ _ c.in-Some.key c.in-Some.is c.next.ensures.steps in
    walk_takes (is_in g.S.Group.PartialEq.eq g.S.Grouping.group_of (at_level c.args.level c.args.self.now) c.args.group) _ _ _ _ _ c.loop-key.invariant step (sym c.is_in.ensures ∙ c.if-is_in.true)
    ∙ ap (λ l. l ++ filter (is_in g.S.Group.PartialEq.eq g.S.Grouping.group_of (at_level c.args.level c.args.self.now) c.args.group) c.next.new.self) (sym c.in_ok-push.ensures.items)

pub loop-key-preserved : goal.loop-key-preserved
loop-key-preserved g c =
    let step : c.loop-key.key-iterator ≡ c.in-Some.key.now ∷ c.next.new.self = rest_more deref _ _ _ c.in-Some.key c.in-Some.is c.next.ensures.steps in
    walk_leaves (is_in g.S.Group.PartialEq.eq g.S.Grouping.group_of (at_level c.args.level c.args.self.now) c.args.group) _ _ _ _ _ c.loop-key.invariant step (sym c.is_in.ensures ∙ c.if-is_in.false)

pub returns-clause-items : goal.returns-clause-items
returns-clause-items g c =
    let none : c.loop-key.key-iterator ≡ [] = rest_all deref _ _ _ c.in-None.is c.next.ensures.steps in
    sym (walk_ends (is_in g.S.Group.PartialEq.eq g.S.Grouping.group_of (at_level c.args.level c.args.self.now) c.args.group) _ _ _ c.loop-key.invariant none)
    ∙ ap (filter (is_in g.S.Group.PartialEq.eq g.S.Grouping.group_of (at_level c.args.level c.args.self.now) c.args.group)) (c.into_iter-key-iterator.ensures.into_iter_gives ∙ c.keys-key-items.ensures.rest)
