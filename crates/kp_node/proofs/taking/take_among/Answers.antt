use Rattle.std.proofs.Common.{ap, sym, is_some, ◌∙◌}
use Rattle.kp_node.proofs.Greets.{held_still, if_ok, on_err}
use Rattle.kp_node.proofs.Took.{live_at, never_none}
use Rattle.kp_node.proofs.taking.take_among.Goals as goal

pub unreachable-requires : goal.unreachable-requires
unreachable-requires c = never_none _ c.in-None.ensures.value c.requires

pub take_seat-requires : goal.take_seat-requires
take_seat-requires c = live_at _ c.in-Some.seat.now c.in-Some.ensures.value c.requires

pub returns-clause-ok : goal.returns-clause-ok
returns-clause-ok c = if_ok _ _ c.take_seat.result
    (λ t h. record { was = c.in-Some.seat.now; there = sym c.in-Some.ensures.value; is = c.take_seat.new.seat; seat = h; seating = c.get_mut.follows.holds c.take_seat.new.seat (ap is_some (sym c.in-Some.ensures.value)) }) c.take_seat.ensures.ok

pub returns-clause-seats : goal.returns-clause-seats
returns-clause-seats c = on_err _ _ c.take_seat.result
    (λ h. c.get_mut.follows.holds c.take_seat.new.seat (ap is_some (sym c.in-Some.ensures.value)) ∙ held_still c.args.seats.now c.args.number c.in-Some.seat.now c.take_seat.new.seat c.in-Some.ensures.value h) c.take_seat.ensures.seat
