use Rattle.std.proofs.Common.{refl, rules, subst, sym}
use Rattle.kp_dispatch.specs.Ticks.{TickTells}
use Rattle.kp_dispatch.proofs.Rounding.{tick_none}
use Rattle.kp_dispatch.proofs.TickCalls.{tick_halts}
use Rattle.kp_dispatch.proofs.ticking.tick.Goals as goal

pub returns-in_default-clause-tells : goal.returns-in_default-clause-tells
returns-in_default-clause-tells g c = (tick_none (g.C.Clock.may c.args.clock.now) c.args.timeout c.args.snapshot c.args.seat.now.turn, refl, refl)

pub returns-in-Err-clause-tells : goal.returns-in-Err-clause-tells
returns-in-Err-clause-tells g c = subst (λ r. TickTells (g.C.Clock.may c.args.clock.now) c.args.seat.now c.work.new.seat c.args.timeout c.args.snapshot r) (sym c.turned_of.ensures)
    (tick_halts (g.C.Clock.may c.args.clock.now) c.args.seat.now c.work.new.seat c.args.timeout c.args.snapshot _ c.in-Err.refusal (search rules) c.in-Err.ensures.tells)
