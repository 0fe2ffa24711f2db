use Rattle.std.proofs.Common.{sym, subst, ◌∙◌}
use Rattle.std.specs.List.{All}
use Rattle.std.specs.Vec.Iter.{into_iter_items}
use Rattle.std.proofs.lemmas.List.Elements.{All-tail}
use Rattle.kp_act.specs.Effects.{IsFit}
use Rattle.kp_prep.proofs.Carried.{staged_more, staged_none, more_left}
use Rattle.kp_prep.proofs.stage.stage_effects.Goals as goal

pub loop-effect-preserved : goal.loop-effect-preserved
loop-effect-preserved c = record {
  staged = staged_more c.loop-effect.cells c.stage_effect.new.cells c.in-Some.effect (into_iter_items c.loop-effect.effect-iterator) (into_iter_items c.next.new.self) c.in-Some.ensures.steps.0 c.in_ok-stage_effect.ensures.staged ∙ c.loop-effect.invariant.staged;
  left = more_left c.loop-effect.invariant.left c.in-Some.ensures.steps.0 c.in-Some.ensures.steps.1;
  fit = All-tail IsFit c.in-Some.effect (into_iter_items c.next.new.self) (subst (All IsFit) c.in-Some.ensures.steps.0 c.loop-effect.invariant.fit);
  beneath = c.in_ok-stage_effect.ensures.beneath ∙ c.loop-effect.invariant.beneath;
  opened = c.in_ok-stage_effect.ensures.open;
}

pub returns-clause-staged : goal.returns-clause-staged
returns-clause-staged c = sym (staged_none c.loop-effect.cells (into_iter_items c.loop-effect.effect-iterator) (sym c.loop-effect.invariant.left ∙ c.in-None.ensures.steps.0)) ∙ c.loop-effect.invariant.staged
