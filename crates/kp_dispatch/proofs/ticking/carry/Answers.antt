use Rattle.std.proofs.Common.{[], ◌∷◌, refl, rules, subst, sym}
use Rattle.kp_links.specs.LinkSeats.{link_view}
use Rattle.kp_event.specs.declared.event.NodeEventKind.TheVariants as kind
use Rattle.kp_shared.specs.declared.plan.Step.TheVariants as step
use Rattle.kp_dispatch.specs.Ticks.{CarryTells, Works}
use Rattle.kp_dispatch.proofs.Rounding.{plan_none}
use Rattle.kp_dispatch.proofs.TickCalls.{carry_halts}
use Rattle.kp_dispatch.proofs.ticking.carry.Goals as goal

pub returns-in_default-plan_carry-clause-tells : goal.returns-in_default-plan_carry-clause-tells
returns-in_default-plan_carry-clause-tells g c = (c.in-Some.mail, c.in-Some.ensures.takes, (plan_none (g.C.Clock.may c.args.clock.now) c.args.seat.now.turn (kind.Deliver c.in-Some.mail) (step.Commits ∷ step.MaybeBeat ∷ []), refl, refl))

pub returns-in-Err-clause-tells : goal.returns-in-Err-clause-tells
returns-in-Err-clause-tells g c = subst (λ r. CarryTells (g.C.Clock.may c.args.clock.now) c.args.seat.now c.work.new.seat g.K.Kept.feeds (link_view c.args.at.now) (link_view c.take.new.seat) r) (sym c.turned_of.ensures)
    (carry_halts (g.C.Clock.may c.args.clock.now) c.args.seat.now c.work.new.seat g.K.Kept.feeds (link_view c.args.at.now) (link_view c.take.new.seat) c.in-Some.mail _ c.in-Err.refusal c.in-Some.ensures.takes (search rules) c.in-Err.ensures.tells)

pub returns-in-Ok-work-clause-tells : goal.returns-in-Ok-work-clause-tells
returns-in-Ok-work-clause-tells g c = (c.in-Some.mail, c.in-Some.ensures.takes, c.feeds_log-feeds.ensures, subst (λ ps. Works (g.C.Clock.may c.args.clock.now) c.args.seat.now c.work.new.seat ps) c.in-Ok.ensures c.in-Ok-work.ensures.tells)
