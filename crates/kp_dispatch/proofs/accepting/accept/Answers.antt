use Rattle.std.proofs.Common.{◌∙◌, sym}
use Rattle.kp_dispatch.proofs.Rounding.{whole_one}
use Rattle.kp_event.specs.declared.event.NodeEventKind.TheVariants as kind
use Rattle.kp_dispatch.proofs.accepting.accept.Goals as goal

pub returns-in-Ok-clause-tells : goal.returns-in-Ok-clause-tells
returns-in-Ok-clause-tells g c = let w = whole_one (g.C.Clock.may c.args.clock.now) c.args.seat.now.turn c.think_kept.new.seat (kind.Accept c.args.draw) c.in-Ok.thought c.in-Ok.ensures.tells in
    (c.in-Ok.thought, w.0, sym c.said_of.ensures ∙ c.number_of.ensures, w.1)
