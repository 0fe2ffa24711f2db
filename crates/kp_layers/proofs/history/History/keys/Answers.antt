use Rattle.std.proofs.Common.{◌≡◌, ◌++◌, ap, sym, subst, ◌∙◌, ◌∷◌, [], nat_eq}
use Rattle.std.specs.FinMap as map
use Rattle.std.specs.List.{filter, list_any, IsDistinct}
use Rattle.std.specs.Map.Iter.{deref}
use Rattle.std.proofs.lemmas.Map.Iter.{rest_more, rest_all}
use Rattle.kp_layers.specs.Listed.{at_level}
use Rattle.kp_layers.specs.Used.{is_known}
use Rattle.kp_layers.proofs.Used.{cell_is}
use Rattle.kp_layers.proofs.Listed.{walk_takes, walk_leaves, walk_ends, keys_are}
use Rattle.kp_layers.proofs.history.History.keys.Goals as goal

pub loop-key-init : goal.loop-key-init
loop-key-init g c = ap (λ l. l ++ filter (map.contains_key (at_level c.args.level c.args.self.now)) c.into_iter-key-iterator.result) (sym c.new-keys.ensures.items)

pub loop-key-preserved-in-Continue-1 : goal.loop-key-preserved-in-Continue-1
loop-key-preserved-in-Continue-1 g c =
    let step : c.loop-key.key-iterator ≡ c.in-Some.key.now ∷ c.next.new.self = rest_more deref _ _ _ c.in-Some.key c.in-Some.is c.next.ensures.steps in
    walk_takes (map.contains_key (at_level c.args.level c.args.self.now)) _ _ _ _ _ c.loop-key.invariant step (sym c.has.ensures ∙ c.if-has.true)
    ∙ ap (λ l. l ++ filter (map.contains_key (at_level c.args.level c.args.self.now)) c.next.new.self) (sym c.in_ok-push.ensures.items)

pub loop-key-preserved : goal.loop-key-preserved
loop-key-preserved g c =
    let step : c.loop-key.key-iterator ≡ c.in-Some.key.now ∷ c.next.new.self = rest_more deref _ _ _ c.in-Some.key c.in-Some.is c.next.ensures.steps in
    walk_leaves (map.contains_key (at_level c.args.level c.args.self.now)) _ _ _ _ _ c.loop-key.invariant step (sym c.has.ensures ∙ c.if-has.false)

pub returns : goal.returns
returns g c =
    let none : c.loop-key.key-iterator ≡ [] = rest_all deref _ _ _ c.in-None.is c.next.ensures.steps in
    let all : c.into_iter-key-iterator.result ≡ c.keys-key-items.result = c.into_iter-key-iterator.ensures.into_iter_gives in
    keys_are c.args.level c.args.self.now c.into_iter-key-iterator.result _ _
    (λ q. ap (λ p. is_known p q) (sym c.self.view_is) ∙ sym (cell_is _ _ _ q c.self.invariant.0.chains) ∙ c.keys-key-items.ensures.has q ∙ ap (list_any (nat_eq q)) (sym all))
    (subst (IsDistinct nat_eq) (sym (all ∙ c.keys-key-items.ensures.rest)) c.keys-key-items.ensures.unique)
    (walk_ends (map.contains_key (at_level c.args.level c.args.self.now)) _ _ _ c.loop-key.invariant none)
    c.in_order.ensures
