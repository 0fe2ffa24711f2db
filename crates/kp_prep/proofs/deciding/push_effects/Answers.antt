use Rattle.std.proofs.Common.{sym, subst, ◌∙◌}
use Rattle.std.specs.List.{All}
use Rattle.std.specs.Vec.Iter.{into_iter_items}
use Rattle.std.proofs.lemmas.List.Elements.{All-tail}
use Rattle.kp_act.specs.Effects.{IsFit}
use Rattle.kp_prep.proofs.Carried.{more_left}
use Rattle.kp_prep.proofs.Changes.{pushed_more, pushed_all}
use Rattle.kp_prep.proofs.deciding.push_effects.Goals as goal

pub loop-effect-preserved : goal.loop-effect-preserved
loop-effect-preserved g c = record {
  pushed = pushed_more (g.V.View.state c.args.view.now) c.loop-effect.ledger.changes c.push_effect.new.ledger.changes c.in-Some.effect (into_iter_items c.loop-effect.effect-iterator) (into_iter_items c.next.new.self) c.in-Some.ensures.steps.0 c.in_ok-push_effect.ensures.changes ∙ c.loop-effect.invariant.pushed;
  ledger = c.in_ok-push_effect.ensures.ledger;
  left = more_left c.loop-effect.invariant.left c.in-Some.ensures.steps.0 c.in-Some.ensures.steps.1;
  fit = All-tail IsFit c.in-Some.effect (into_iter_items c.next.new.self) (subst (All IsFit) c.in-Some.ensures.steps.0 c.loop-effect.invariant.fit);
}

pub returns : goal.returns
returns g c = sym (pushed_all (g.V.View.state c.args.view.now) c.loop-effect.ledger.changes (into_iter_items c.loop-effect.effect-iterator) (sym c.loop-effect.invariant.left ∙ c.in-None.ensures.steps.0)) ∙ c.loop-effect.invariant.pushed
