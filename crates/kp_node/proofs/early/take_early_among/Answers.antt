use Rattle.std.proofs.Common.{ap, sym, is_some, ◌∙◌}
use Rattle.kp_node.proofs.Greets.{held_still, on_err}
use Rattle.kp_node.proofs.early.take_early_among.Goals as goal

pub returns-clause-seats : goal.returns-clause-seats
returns-clause-seats c = on_err _ _ c.take_early_seat.result
    (λ h. c.get_mut.follows.holds c.take_early_seat.new.seat (ap is_some (sym c.in-Some.ensures.value)) ∙ held_still c.args.seats.now c.args.number c.in-Some.seat.now c.take_early_seat.new.seat c.in-Some.ensures.value h) c.take_early_seat.ensures.seat
