use Rattle.std.proofs.Common.{◌≡◌, [], ◌∷◌, ◌++◌, refl, sym, ◌∙◌, ap, append_assoc, rules}
use Rattle.std.specs.Vec.Iter.{into_iter_items}
use Rattle.kp_shared.proofs.TurnCalls.{left_out, steps_go, steps_halt}
use Rattle.kp_shared.proofs.turns.think_plan.Goals as goal

pub loop-step-init : goal.loop-step-init
loop-step-init g c = record { next = tt; finite = tt; left = search rules; seat = c.requires; steps = ([], search rules, left_out (g.C.Clock.may c.args.clock.now) c.args.batch.now.items c.args.seat.now (λ ds. ds ≡ []) refl) }

pub loop-step-preserved : goal.loop-step-preserved
loop-step-preserved g c = let p = c.loop-step.invariant.steps in
    let next : into_iter_items c.loop-step.step-iterator ≡ c.in-Some.step ∷ into_iter_items c.next.new.self = search rules in record {
      next = tt;
      finite = tt;
      left = search rules;
      seat = c.take_step.ensures.seat;
      steps = (
        p.0 ++ c.in-Some.step ∷ [],
        append_assoc p.0 (c.in-Some.step ∷ []) (into_iter_items c.next.new.self) ∙ ap (λ l. p.0 ++ l) (sym next) ∙ p.1,
        steps_go (g.C.Clock.may c.args.clock.now) c.args.batch.now.items c.loop-step.batch.items c.take_step.new.batch.items c.args.seat.now c.loop-step.seat c.take_step.new.seat p.0 c.in-Some.step p.2 c.in-Ok.ensures.tells,
      );
    }

pub returns-in-Err-clause-tells : goal.returns-in-Err-clause-tells
returns-in-Err-clause-tells g c = let p = c.loop-step.invariant.steps in
    let next : into_iter_items c.loop-step.step-iterator ≡ c.in-Some.step ∷ into_iter_items c.next.new.self = search rules in
    steps_halt (g.C.Clock.may c.args.clock.now) c.args.batch.now.items c.loop-step.batch.items c.take_step.new.batch.items c.args.seat.now c.loop-step.seat c.take_step.new.seat p.0 (into_iter_items c.next.new.self) c.args.plan.items c.in-Some.step c.in-Err.refusal
    (ap (λ l. p.0 ++ l) (sym next) ∙ p.1) p.2 c.in-Err.ensures.tells
